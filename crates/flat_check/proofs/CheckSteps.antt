-- Tables with one place more.
use Rattle.std.proofs.Common.{◌≡◌, ℕ, zero, suc, ◌+◌, ◌-◌, ◌*◌, ◌<◌, ◌≤◌, ℤ, pos, ◌+ℤ◌, List, [], ◌∷◌, ◌++◌, length, take, set, slice_index, refl, sym, ◌∙◌, ap, subst, arith, ◌⊎◌, inl, inr, length-append}
use Rattle.std.proofs.lemmas.Int.{ints}
use Rattle.std.proofs.lemmas.Bool.{cases_lt}
use Rattle.std.proofs.lemmas.List.{take_more_set, get_or_append_left, get_or-set_other, length-set}
use Rattle.std.proofs.lemmas.Grind.{get_or-set_at}
use Rattle.flat_check.specs.BracketTables.{AreTables}
use Rattle.std.proofs.Math.Seq.{get_or-append_seam}
use Rattle.decision_model.specs.declared.average.Average.{Average}
use Rattle.decision_model.specs.Average.{average_positions}
use Rattle.average_lemmas.specs.Entries.{entry_before, entry_last}
use Rattle.value_cert.specs.BracketRules.{over_at}
use Rattle.value_cert.specs.BracketValues.{setup_parts, most_over}
use Rattle.bracket_lemmas.specs.CheckRows.{AreRaised}

-- one raised entry more
pub raised_behind : (raise : ℕ) (ts : List ℕ) (over : List ℤ) (t : ℕ) (entry : ℤ) → AreRaised raise ts over → pos t ≡ entry +ℤ pos raise → AreRaised raise (ts ++ t ∷ []) (over ++ entry ∷ [])
raised_behind raise ts over t entry are same = record {
  many = omega (arith, are.many, length-append ts (t ∷ []), length-append over (entry ∷ []));
  each = λ k lt. go k (omega (arith, lt, length-append over (entry ∷ []))) (cases_lt k (length over));
}
  where
    go : (k : ℕ) → k < length over + 1 → (k < length over) ⊎ (length over ≤ k) → pos (slice_index (ts ++ t ∷ []) k) ≡ over_at (over ++ entry ∷ []) k +ℤ pos raise
    go k lt (inl less) = ap pos (entry_before ts t k (omega (arith, less, are.many))) ∙ are.each k less ∙ ap (λ z. z +ℤ pos raise) (sym (get_or_append_left over (entry ∷ []) (pos 0) k less))
    go k lt (inr ge) =
        let end : length over ≡ k = omega (arith, lt, ge) in
        subst (λ (i : ℕ). pos (slice_index (ts ++ t ∷ []) i) ≡ over_at (over ++ entry ∷ []) i +ℤ pos raise) end
        (ap pos (entry_last ts t (length over) are.many) ∙ same ∙ ap (λ z. z +ℤ pos raise) (sym (get_or-append_seam over entry [] (pos 0))))

-- what holds of the first entries, and of one written behind them, holds of all
one_more : (P : ℕ → Type 0) (xs : List ℕ) (count value : ℕ) → count < length xs → P value → ((j : ℕ) → j < count → P (slice_index xs j)) → (j : ℕ) → j < count + 1 → P (slice_index (set xs count value) j)
one_more P xs count value inside here before j lt = go (cases_lt j count)
  where
    go : (j < count) ⊎ (count ≤ j) → P (slice_index (set xs count value) j)
    go (inl less) = subst P (sym (get_or-set_other xs count j value 0 (λ e. absurd (omega (arith, less, e))))) (before j less)
    go (inr more) = let same : j ≡ count = omega (arith, lt, more) in subst P (sym (get_or-set_at xs count j value 0 same inside)) here

pub tables_more : (item : Average) (count : ℕ) (under over : List ℕ) (u o : ℕ) → AreTables item count under over → count < average_positions item → u ≤ setup_parts item → o ≤ 2 * most_over item (average_positions item) → AreTables item (count + 1) (set under count u) (set over count o)
tables_more item count under over u o are lt u_small o_small = record {
  all_under = length-set under count u ∙ are.all_under;
  all_over = length-set over count o ∙ are.all_over;
  within = omega (arith, lt);
  under_small = one_more (λ e. e ≤ setup_parts item) under count u (omega (arith, lt, are.all_under)) u_small are.under_small;
  over_small = one_more (λ e. e ≤ 2 * most_over item (average_positions item)) over count o (omega (arith, lt, are.all_over)) o_small are.over_small;
}
