-- A newsvendor's check answers as the rules say, a certificate that breaks none names the first level of least cost, and the solver's breaks none.
use Rattle.std.proofs.Common.{◌≡◌, ℕ, zero, suc, ◌+◌, ◌*◌, ◌^◌, ◌<◌, ◌≤◌, lit≤, Bool, true, false, cond, not, ◌||◌, leb, List, ℤ, pos, negsuc, ◌-ℤ◌, ◌≤ℤ◌, length, sum, Option, Some, None, refl, sym, ap, ◌∙◌, subst, arith}
use Rattle.std.specs.Prelude.{unsigned_abs}
use Rattle.std.proofs.lemmas.Int.{ints}
use Rattle.std.proofs.lemmas.Bool.{leb-true, false≢true}
use Rattle.std.proofs.lemmas.Bool.Decides.{nat_tests}
use Rattle.std.proofs.Math.Nat.{mul-le-mul_left}
use Rattle.demand_law.specs.Law.{upto_of}
use Rattle.newsvendor.specs.CriticalRatio.{least_by_ratio, upto_rises}
use Rattle.newsvendor.specs.Item.{NewsvendorItem, IsNewsvendor}
use Rattle.newsvendor.specs.Least.{first_least_upto}
use Rattle.newsvendor.specs.Level.{cost_of, LeastLevel}
use Rattle.newsvendor.specs.Solved.{solved_is_least, reached_by_least, first_by_least, solved_within, cost_not_negative}
use Rattle.decision_model.specs.declared.instance.Instance.{Instance}
use Rattle.decision_model.specs.declared.instance.Instance.TheVariants as instance
use Rattle.value_cert.specs.HasTexts.{least_level_text}
use Rattle.value_cert.specs.Headings.{heading_of}
use Rattle.value_cert.specs.NewsRules.{reaches_ratio, is_first_level, level_rule, cost_rule, named_level, news_rule, news_rules, CertifiesLevel, solved_news}
use Rattle.value_cert.specs.Numbers.{is_number}
use Rattle.value_cert.specs.RuleTests.{same_number, number_at, rule_passed}
use Rattle.value_cert.specs.Texts.{HasText}
use Rattle.value_cert.specs.declared.cert.Cert.{Cert}
use Rattle.value_cert.specs.declared.cert.Cert.TheVariants as cert
use Rattle.value_cert.specs.declared.line.CertLine.{CertLine}
use Rattle.cert_check.specs.Answers.{AnswersBehindHead}
use Rattle.cert_check.specs.NewsChecks.{KnowsNews}
use Rattle.cert_check.specs.declared.news.NewsCheck.{NewsCheck}
use Rattle.value_cert.specs.Kept.{BreaksNoRule, own_head, known_of-more}
use Rattle.cert_check.proofs.Levels.{above_none}

-- ---- the answers
pub news_answers : (item : Instance) (before : List CertLine) (line : CertLine) (old new : NewsCheck) (answer : Option ℕ)
    → KnowsNews old item before → new.newsvendor.now ≡ old.newsvendor.now → answer ≡ news_rule old.newsvendor.now old.level line → (answer ≡ None → new.level ≡ named_level old.level line)
    → AnswersBehindHead (KnowsNews new) item before line answer
news_answers (instance.News newsvendor) before line old new answer of same rule level = record {
  rule = rule ∙ ap (λ (n : NewsvendorItem). news_rule n old.level line) of.newsvendor_is ∙ ap (λ (q : ℕ). news_rule newsvendor q line) of.named;
  known = λ none. record {
    newsvendor_is = same ∙ of.newsvendor_is;
    named = level none ∙ ap (λ (q : ℕ). named_level q line) of.named ∙ sym (known_of-more (news_rules newsvendor) before line);
  };
}
news_answers _ before line old new answer of same rule level = absurd of

-- ---- numbers
size_is : (z : ℤ) → pos 0 ≤ℤ z → z ≡ pos (unsigned_abs z)
size_is (pos k) h = refl
size_is (negsuc k) h = absurd (omega (arith, ints))

-- ---- a level that breaks no rule
not_true : (a b : Bool) → a ≡ false → (a || not b) ≡ true → b ≡ false
not_true true b e h = absurd (false≢true (sym e))
not_true false true e h = absurd (false≢true h)
not_true false false e h = refl

leb_false : (a b : ℕ) → leb a b ≡ false → b < a
leb_false a b h = grind (arith, nat_tests)

below_ratio : (item : NewsvendorItem) (k : ℕ) → reaches_ratio item (pos k) ≡ false → (item.holding + item.stockout) * upto_of item.law k < item.stockout * sum item.law
below_ratio item k h = leb_false (item.stockout * sum item.law) ((item.holding + item.stockout) * upto_of item.law k) h

first_by : (item : NewsvendorItem) (level : ℕ) → is_first_level item (pos level) ≡ true → (k : ℕ) → k < level → (item.holding + item.stockout) * upto_of item.law k < item.stockout * sum item.law
first_by item zero h k lt = absurd (omega arith)
first_by item (suc below) h k lt =
    let step : pos (suc below) -ℤ pos 1 ≡ pos below = omega (arith, ints) in
    let P : ℤ → Type 0 = λ z. reaches_ratio item z ≡ false in
    let missed = subst P step (not_true (is_number (pos 0) (pos (suc below))) (reaches_ratio item (pos (suc below) -ℤ pos 1)) (above_none below) h) in
    omega (arith, below_ratio item below missed, mul-le-mul_left (item.holding + item.stockout) (upto_rises item.law k below (omega arith)))

least_by_rules : (item : NewsvendorItem) (level : ℕ) → level_rule item (pos level) ≡ None → LeastLevel item level
least_by_rules item level h =
    let reached = rule_passed (reaches_ratio item (pos level)) (cond (is_first_level item (pos level)) None (Some 4)) 3 h in
    let first = rule_passed (is_first_level item (pos level)) None 4 reached.1 in
    least_by_ratio item.holding item.stockout item.law level (leb-true (item.stockout * sum item.law) ((item.holding + item.stockout) * upto_of item.law level) reached.0) (first_by item level first.0)

cost_by_rule : (item : NewsvendorItem) (level cost : ℕ) → cost_rule item level (pos cost) ≡ None → pos cost ≡ cost_of item level
cost_by_rule item level cost h = sym (same_number (cost_of item level) (pos cost) (rule_passed (is_number (cost_of item level) (pos cost)) None 5 h).0)

-- a certificate whose lines break no rule
pub news_certifies : (item : NewsvendorItem) (c : Cert) → BreaksNoRule (instance.News item) c → CertifiesLevel item c
news_certifies item (cert.News c) kept = record { level = least_by_rules item c.q kept.1.0; cost = cost_by_rule item c.q c.cost kept.1.1.0 }
news_certifies item _ kept = let foreign_head = kept.0 in cc

-- ---- the least level
leb_at : (a b : ℕ) → a ≤ b → leb a b ≡ true
leb_at a b h = grind (arith, nat_tests)

leb_past : (a b : ℕ) → b < a → leb a b ≡ false
leb_past a b h = grind (arith, nat_tests)

or_second : (a b : Bool) → b ≡ false → (a || not b) ≡ true
or_second true b h = refl
or_second false b h = rw h refl

reaches_by : (item : NewsvendorItem) (level : ℕ) → LeastLevel item level → reaches_ratio item (pos level) ≡ true
reaches_by item level h = leb_at (item.stockout * sum item.law) ((item.holding + item.stockout) * upto_of item.law level) (reached_by_least item level h)

missed_by : (item : NewsvendorItem) (below : ℕ) → LeastLevel item (suc below) → reaches_ratio item (pos below) ≡ false
missed_by item below h =
    let P : ℕ → Type 0 = λ k. LeastLevel item k in
    let e : suc below ≡ below + 1 = omega arith in
    leb_past (item.stockout * sum item.law) ((item.holding + item.stockout) * upto_of item.law below) (first_by_least item below (subst P e h))

first_at : (item : NewsvendorItem) (level : ℕ) → LeastLevel item level → is_first_level item (pos level) ≡ true
first_at item zero h = refl
first_at item (suc below) h =
    let step : pos below ≡ pos (suc below) -ℤ pos 1 = omega (arith, ints) in
    let P : ℤ → Type 0 = λ z. reaches_ratio item z ≡ false in
    or_second (is_number (pos 0) (pos (suc below))) (reaches_ratio item (pos (suc below) -ℤ pos 1)) (subst P step (missed_by item below h))

level_passes : (item : NewsvendorItem) (level : ℕ) → LeastLevel item level → level_rule item (pos level) ≡ None
level_passes item level h = rw (reaches_by item level h, first_at item level h) refl

cost_passes : (item : NewsvendorItem) (level : ℕ) (cost : ℤ) → cost_of item level ≡ cost → cost_rule item level cost ≡ None
cost_passes item level cost h = rw (number_at (cost_of item level) cost h) refl

-- the solver's certificate
solved_size : (item : NewsvendorItem) → cost_of item (solved_news item).q ≡ pos (solved_news item).cost
solved_size item = size_is (cost_of item (solved_news item).q) (cost_not_negative item (solved_news item).q)

pub solved_news_keeps : (item : NewsvendorItem) → BreaksNoRule (instance.News item) (cert.News (solved_news item))
solved_news_keeps item =
    let level = first_least_upto (cost_of item) (length item.law) in
    (own_head (heading_of (instance.News item)), (level_passes item level (solved_is_least item), (cost_passes item level (pos (unsigned_abs (cost_of item level))) (solved_size item), (refl, tt))))

pub solved_news_text : (item : NewsvendorItem) → IsNewsvendor item → HasText (cert.News (solved_news item))
solved_news_text item is =
    let range : 10001 ≤ 2 ^ 120 = lit≤ tt in
    least_level_text item is (solved_news item) (record { level = solved_is_least item; cost = sym (solved_size item) }) (omega (arith, solved_within item, is.greatest_in_range, range))
