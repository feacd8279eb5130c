-- What `demand` prints of an instance.
use Rattle.std.specs.Prelude.{ℕ, ◌+◌, List, [], ◌∷◌, ◌++◌, Bool, true, false, codes, decimal}
use Rattle.std.specs.List.{flat_map, range_with_len}
use Rattle.demand_law.specs.Sequences.{law_at, laws_at, law_of_sum}
use Rattle.decision_model.specs.declared.instance.Instance.{Instance}
use Rattle.decision_model.specs.declared.instance.Instance.TheVariants.{News, Lots, Finite, Average, Serial, Network}
use Rattle.report_text.specs.Laws.{law_text}

-- the law of the demand of `count` periods together, the first of them at a place of the list of laws
abbrev pub law_of_periods : List (List ℕ) → ℕ → ℕ → List ℕ
law_of_periods laws place count = law_of_sum (laws_at laws place count)

-- the line of a period's number, from 1
abbrev pub numbered_text : ℕ → List ℕ
numbered_text period = codes "period " ++ decimal period ++ codes "\n"

-- a law under the number of its period
abbrev pub period_text : ℕ → List ℕ → List ℕ
period_text period law = numbered_text period ++ law_text law

-- one text under the number of each period
abbrev pub same_text : ℕ → List ℕ → List ℕ
same_text periods text = flat_map (λ place. numbered_text (place + 1) ++ text) (range_with_len 0 periods)

-- the laws of the periods, the first of them at place 0
abbrev pub periods_text : ℕ → (ℕ → List ℕ) → List ℕ
periods_text periods law = flat_map (λ place. period_text (place + 1) (law place)) (range_with_len 0 periods)

-- the instance has laws of demand: the demand of lot sizing is known, and a network has a demand a node
abbrev pub has_laws : Instance → Bool
has_laws (Lots lots) = false
has_laws (Network net) = false
has_laws _ = true

-- the law of the one period of a newsvendor, of the lead time with its period's demand, of that from each period on, or
-- of each period; nothing where there are no laws
abbrev pub demand_text_of : Instance → List ℕ
demand_text_of (News newsvendor) = law_text newsvendor.law
demand_text_of (Lots lots) = []
demand_text_of (Network net) = []
demand_text_of (Finite finite) = periods_text finite.periods (λ place. law_of_periods finite.laws place (finite.lead + 1))
demand_text_of (Average average) = law_text (law_of_periods (average.law ∷ []) 0 (average.lead + 1))
demand_text_of (Serial serial) = periods_text serial.periods (law_at serial.laws)
