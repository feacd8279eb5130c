-- The JSON data that the parts of an instance are written as.
use Rattle.std.specs.Prelude.{ℕ, suc, ◌==◌, min, List, [], ◌∷◌, map, codes, ℤ, if◌then◌else◌}
use Rattle.serde_json.specs.Data.{Data, number, unsigned, array, object, member, no_members}
use Rattle.serde_json.specs.Find.{of_integer}
use Rattle.serde_json.specs.View.{items_of}

abbrev pub amount_data : ℕ → Data
amount_data n = number (unsigned n)

abbrev pub position_data : ℤ → Data
position_data z = number (of_integer z)

abbrev pub list_data : List Data → Data
list_data ds = array (items_of ds)

unfoldable pub amounts_data : List ℕ → Data
amounts_data ns = list_data (map amount_data ns)

unfoldable pub positions_data : List ℤ → Data
positions_data zs = list_data (map position_data zs)

-- a fraction, or another pair of numbers
abbrev pub pair_data : ℕ → ℕ → Data
pair_data a b = list_data (amount_data a ∷ amount_data b ∷ [])

-- the demands from the first on that have a weight, each with its weight
abbrev pub points_from : ℕ → List ℕ → List (ℕ × ℕ)
points_from first [] = []
points_from first (w ∷ ws) = if w == 0 then points_from (suc first) ws else (first, w) ∷ points_from (suc first) ws

-- a demand and its weight; a JSON number has 64 bits, which no weight of a valid instance exceeds
abbrev pub point_data : ℕ × ℕ → Data
point_data p = pair_data p.0 (min p.1 18446744073709551615)

-- a law as its points, by ascending demand
unfoldable pub law_data : List ℕ → Data
law_data law = object (member (codes "points") (list_data (map point_data (points_from 0 law))) no_members)

-- one law as that law, several as a list
unfoldable pub laws_data : List (List ℕ) → Data
laws_data [] = list_data []
laws_data (law ∷ []) = law_data law
laws_data (law ∷ next ∷ laws) = list_data (map law_data (law ∷ next ∷ laws))
