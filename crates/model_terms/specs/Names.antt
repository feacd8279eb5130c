-- The names of nodes.
use Rattle.std.specs.Prelude.{ℕ, ◌&&◌, ◌||◌, ◌==◌, List, length, codes, Bool, not, nat_le}
use Rattle.std.specs.List.{list_all}
use Rattle.std.specs.Str.{bytes_eq}
use Rattle.model_terms.specs.Limits.{most_name}

abbrev pub is_from_to : ℕ → ℕ → ℕ → Bool
is_from_to least most c = nat_le least c && nat_le c most

-- a letter, a digit, `_` or `-`
abbrev pub is_name_byte : ℕ → Bool
is_name_byte c = is_from_to 97 122 c || is_from_to 65 90 c || is_from_to 48 57 c || (c == 95) || (c == 45)

-- the name of what is no node
abbrev pub outside : List ℕ
outside = codes "outside"

abbrev pub is_node_name : List ℕ → Bool
is_node_name name = nat_le 1 (length name) && nat_le (length name) most_name && list_all is_name_byte name && not (bytes_eq name outside)
