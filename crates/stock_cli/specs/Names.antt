-- The words of commands.
use Rattle.std.specs.Prelude.{ℕ, List, [], ◌∷◌, codes, Option, Bool, true, false, ◌&&◌, find}
use Rattle.std.specs.Str.{bytes_eq}
use Rattle.stock_cli.specs.declared.names.Verb.{Verb}
use Rattle.stock_cli.specs.declared.names.Verb.TheVariants as verb
use Rattle.stock_cli.specs.declared.names.Part.{Part}
use Rattle.stock_cli.specs.declared.names.Part.TheVariants as part
use Rattle.stock_cli.specs.declared.names.Act.{Act}
use Rattle.stock_cli.specs.declared.names.Act.TheVariants as act

-- ---- commands of one word
abbrev pub verb_word : Verb → List ℕ
verb_word verb.Solve = codes "solve"
verb_word verb.Certify = codes "certify"
verb_word verb.Check = codes "check"
verb_word verb.Demand = codes "demand"
verb_word verb.Simulate = codes "simulate"
verb_word verb.Trial = codes "trial"
verb_word verb.Help = codes "help"

abbrev pub all_verbs : List Verb
all_verbs = verb.Solve ∷ verb.Certify ∷ verb.Check ∷ verb.Demand ∷ verb.Simulate ∷ verb.Trial ∷ verb.Help ∷ []

-- the verb of a name
abbrev pub verb_named : List ℕ → Option Verb
verb_named name = find (λ v. bytes_eq (verb_word v) name) all_verbs

-- ---- commands of two words
abbrev pub part_word : Part → List ℕ
part_word part.Bracket = codes "bracket"
part_word part.Pipeline = codes "pipeline"
part_word part.Service = codes "service"
part_word part.Pairs = codes "pairs"

-- the parts that run
abbrev pub is_built : Part → Bool
is_built part.Bracket = true
is_built part.Pipeline = false
is_built part.Service = false
is_built part.Pairs = false

abbrev pub all_parts : List Part
all_parts = part.Bracket ∷ part.Pipeline ∷ part.Service ∷ part.Pairs ∷ []

-- the part of a name, if it is built
abbrev pub part_named : List ℕ → Option Part
part_named name = find (λ p. is_built p && bytes_eq (part_word p) name) all_parts

abbrev pub act_word : Act → List ℕ
act_word act.Solve = codes "solve"
act_word act.Certify = codes "certify"
act_word act.Check = codes "check"

-- the parts that print a policy
abbrev pub has_solve : Part → Bool
has_solve part.Pairs = false
has_solve _ = true

-- the acts of a part
abbrev pub has_act : Part → Act → Bool
has_act p act.Solve = has_solve p
has_act p act.Certify = true
has_act p act.Check = true

abbrev pub all_acts : List Act
all_acts = act.Solve ∷ act.Certify ∷ act.Check ∷ []

-- the act of a part that has a name
abbrev pub act_named : Part → List ℕ → Option Act
act_named p name = find (λ a. has_act p a && bytes_eq (act_word a) name) all_acts
