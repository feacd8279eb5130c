-- A check that answers by what it knows, and knows what a further line names, answers to the line.
use Rattle.std.proofs.Common.{◌≡◌, ℕ, List, Option, None, sym, ap, ◌∙◌, subst}
use Rattle.line_check.specs.Rules.{AnswersLine}
use Rattle.value_cert.specs.Kept.{known_of-more}
use Rattle.value_cert.specs.Rules.{known_of}
use Rattle.value_cert.specs.declared.line.CertLine.{CertLine}
use Rattle.cert_check.specs.KnownLines.{rules_for, KnowsLines}

module _ {Item Known : Type 0} (nothing : Item → Known) (named : Item → Known → CertLine → Known) (rule : Item → Known → CertLine → Option ℕ) where
  pub answers_line : (item old new : Item) (Knew Knows : Known → Type 0) (before : List CertLine) (line : CertLine) (answer : Option ℕ)
      → KnowsLines nothing named rule item old Knew before → new ≡ old
      → ((known : Known) → Knew known → answer ≡ rule old known line)
      → ((known : Known) → Knew known → answer ≡ None → Knows (named old known line))
      → AnswersLine (rules_for nothing named rule item) (KnowsLines nothing named rule item new Knows) before line answer
  answers_line item old new Knew Knows before line answer of same broken further =
      let rules = rules_for nothing named rule item in
      let known = known_of rules before in
      let next = ap (λ (i : Item). named i known line) of.item_is ∙ sym (known_of-more rules before line) in
      record {
        rule = broken known of.named_is ∙ ap (λ (i : Item). rule i known line) of.item_is;
        known = λ none. record { item_is = same ∙ of.item_is; named_is = subst Knows next (further known of.named_is none) };
      }
