-- The members of an object that is written.
use Rattle.std.specs.Prelude.{ℕ, List, [], ◌∷◌}
use Rattle.serde_json.specs.Data.{Data, Members, member, no_members, put}

-- a key with its value
abbrev pub Named : Type 0
Named = List ℕ × Data

-- these members, in this order
abbrev pub listed : List Named → Members
listed [] = no_members
listed (m ∷ ms) = member m.0 m.1 (listed ms)

-- these members put among others, one after another
abbrev pub put_all : List Named → Members → Members
put_all [] among = among
put_all (m ∷ ms) among = put_all ms (put m.0 m.1 among)
