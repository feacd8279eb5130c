-- How the rules of the caller's own stand after each node of the first pass.
use Rattle.std.proofs.Common.{◌≡◌, ◌≢◌, ◌⊎◌, inl, inr, ℕ, zero, suc, ◌+◌, ◌-◌, ◌<◌, ◌≤◌, Bool, true, false, nat_lt, List, length, slice_index, Option, Some, None, if◌then◌else◌, refl, sym, ◌∙◌, ap, subst, arith, add-one, get_or}
use Rattle.std.proofs.Math.ListN.{set}
use Rattle.std.proofs.lemmas.Bool.{cases_lt}
use Rattle.network_model.specs.declared.network.Rule.{Rule}
use Rattle.network_model.specs.declared.network.Rule.TheVariants.{Base, MinMax, Lot, Echelon, House}
use Rattle.node_state.specs.Holdings.{Holding}
use Rattle.node_state.specs.Handed.{Ask, Handed, rule_at, reply_to}
use Rattle.network_sim.specs.declared.station.Station.{Station}
use Rattle.network_sim.specs.declared.errors.RuleOver.{RuleOver}
use Rattle.network_sim.specs.Machine.{station, noted_node, ordered_node, ask_of, replies_of, position_of, order_with, order_at, flag_at}
use Rattle.network_sim.specs.Houses.{or_else, over_of, first_over}
use Rattle.network_sim.specs.Asks.{Pass, rule_in, asked_in, over_with, over_in, HasReplied, IsAsked, HaveReplied, HavePassed, IsCut, HaveRules}
use Rattle.network_sim.proofs.Ruled.{order_same, over_same}

-- ---- the first answer above its cap
pub first_next : (over : ℕ → Option RuleOver) (i : ℕ) → first_over over i ≡ None → first_over over (suc i) ≡ over i
first_next over i none = ap (λ o. or_else o (over i)) none

stays : (over : ℕ → Option RuleOver) (i m k : ℕ) (o : RuleOver) → k ≡ m + i → first_over over i ≡ Some o → first_over over k ≡ Some o
stays over i zero k o far e = let same : i ≡ k = omega arith in subst (λ n. first_over over n ≡ Some o) same e
stays over i (suc m) zero o far e = absurd (omega arith)
stays over i (suc m) (suc k) o far e = ap (λ x. or_else x (over k)) (stays over i m k o (omega arith) e)

pub first_stays : (over : ℕ → Option RuleOver) (i n : ℕ) (o : RuleOver) → i ≤ n → first_over over i ≡ Some o → first_over over n ≡ Some o
first_stays over i n o le e = stays over i (n - i) n o (omega arith) e

pub first_same : (f g : ℕ → Option RuleOver) (n : ℕ) → ((k : ℕ) → k < n → f k ≡ g k) → first_over f n ≡ first_over g n
first_same f g zero h = refl
first_same f g (suc n) h = λ j. or_else (first_same f g n (λ k lt. h k (omega arith)) j) (h n (omega arith) j)

-- it names the node
pub over_node : (i : ℕ) (rule : Rule) (given most : ℕ → ℕ) (over : RuleOver) → over_of i rule given most ≡ Some over → over.node ≡ suc i
over_node i (Base level) given most over e = cc
over_node i (MinMax low high) given most over e = cc
over_node i (Lot reorder lot) given most over e = cc
over_node i (Echelon level) given most over e = cc
over_node i (House index cap) given most over e = by (nat_lt (most index) (given index)) e
  where
    by : (b : Bool) → (if b then Some (record { node = suc i; answer = given index; cap = most index }) else None) ≡ Some over → over.node ≡ suc i
    by true e = some_node e
      where
        some_node : Some (record { node = suc i; answer = given index; cap = most index }) ≡ Some over → over.node ≡ suc i
        some_node e = sym (ap (λ (o : Option RuleOver). node_or o) e)
          where
            node_or : Option RuleOver → ℕ
            node_or (Some x) = x.node
            node_or None = 0
    by false e = cc

-- ---- one rule is asked
-- the index is that of one rule alone
pub same_index : (rule : Rule) (index other some cap : ℕ) → rule ≡ House index some → rule ≡ House other cap → index ≡ other
same_index rule index other some cap e f = cc

pub asked_one : (rule : Rule) (index cap : ℕ) (before now : List Handed) (a : Ask) → rule ≡ House index cap → length now ≡ length before →
    HasReplied (rule_at before index) (rule_at now index) a → ((k : ℕ) → k ≢ index → rule_at now k ≡ rule_at before k) → IsAsked rule before now a
asked_one rule index cap before now a e all replied others = record {
  all = all;
  replied = λ i most f. subst (λ k. HasReplied (rule_at before k) (rule_at now k) a) (same_index rule index i cap most e f) replied;
  others = λ k none. others k (λ same. none cap (subst (λ i. rule ≡ House i cap) (sym same) e));
}

module _ (p : Pass) (n : ℕ) (has : HaveRules p n) (i : ℕ) (lt : i < n) (nodes : List Holding) (now : List Handed) (h : HavePassed p n i nodes now) where
  -- node i's rule stands as it did when the pass began
  same_replies : (a : Ask) (index cap : ℕ) → rule_in p i ≡ House index cap → replies_of now a index ≡ replies_of p.handed a index
  same_replies a index cap e = ap (λ (r : Handed). reply_to r a) (h.replied.left i index cap (omega arith) lt e)

  order_is : (x : Holding) → order_with (station p.stations i) p.demanded now x ≡ order_at p.stations p.demanded p.handed i x
  order_is x =
      let a = ask_of (station p.stations i) p.demanded x in
      order_same (rule_in p i) (position_of (station p.stations i) p.demanded x) (replies_of now a) (replies_of p.handed a) (same_replies a)

  module _ (s : Station) (same : s ≡ station p.stations i) where
    pub order_as : order_with s p.demanded now ≡ order_at p.stations p.demanded p.handed i
    order_as = (λ j. order_with (same j) p.demanded now) ∙ (λ j x. order_is x j)

    abbrev asked : Ask
    asked = ask_of s p.demanded (noted_node nodes i s.callers (slice_index p.demands i))

    asked_as : asked ≡ asked_in p i
    asked_as = λ j. ask_of (same j) p.demanded (noted_node (h.ordered j) i (same j).callers (slice_index p.demands i))

    over_as : over_with i s.rule now asked p.caps ≡ over_in p i
    over_as =
        (λ j. over_with i (same j).rule now (asked_as j) p.caps)
        ∙ over_same i (rule_in p i) (replies_of now (asked_in p i)) (replies_of p.handed (asked_in p i)) (λ index. get_or p.caps index 0) (λ index. get_or p.caps index 0) (same_replies (asked_in p i)) (λ index. refl)

    module _ (new : List Handed) (is : IsAsked s.rule now new asked) where
      here : IsAsked (rule_in p i) now new (asked_in p i)
      here = subst (λ a. IsAsked (rule_in p i) now new a) asked_as (subst (λ (x : Station). IsAsked x.rule now new asked) same is)

      -- the rules of other nodes stand as they were
      other_node : (k index cap : ℕ) → k < n → k ≢ i → rule_in p k ≡ House index cap → rule_at new index ≡ rule_at now index
      other_node k index cap less ne e = here.others index (λ most f. ne (has.apart k i index cap most less lt e f))

      pub replied_next : HaveReplied p n (suc i) new
      replied_next = record {
        all = here.all ∙ h.replied.all;
        done = λ k index cap less in_n e. by k index cap in_n e (cases_lt k i) less;
        left = λ k index cap more in_n e. other_node k index cap in_n (λ eq. absurd (let a = eq in omega arith)) e ∙ h.replied.left k index cap (omega arith) in_n e;
        unnamed = λ index none. here.others index (λ most f. none i most lt f) ∙ h.replied.unnamed index none;
      }
        where
          by : (k index cap : ℕ) → k < n → rule_in p k ≡ House index cap → (k < i) ⊎ (i ≤ k) → k < suc i → HasReplied (rule_at p.handed index) (rule_at new index) (asked_in p k)
          by k index cap in_n e (inl small) less =
              subst (λ (r : Handed). HasReplied (rule_at p.handed index) r (asked_in p k)) (sym (other_node k index cap in_n (λ eq. absurd (let a = eq in omega arith)) e)) (h.replied.done k index cap small in_n e)
          by k index cap in_n e (inr ge) less =
              let eq : i ≡ k = omega arith in
              let f : rule_in p i ≡ House index cap = subst (λ m. rule_in p m ≡ House index cap) (sym eq) e in
              subst (λ m. HasReplied (rule_at p.handed index) (rule_at new index) (asked_in p m)) eq
              (subst (λ (r : Handed). HasReplied r (rule_at new index) (asked_in p i)) (h.replied.left i index cap (omega arith) lt f) (here.replied index cap f))

      pub passed : (after : List Holding) → after ≡ set nodes i (ordered_node (order_with s p.demanded now) nodes i s.callers (slice_index p.demands i) (flag_at p.paused i)) →
          over_with i s.rule now asked p.caps ≡ None → HavePassed p n (i + 1) after new
      passed after made none =
          subst (λ m. HavePassed p n m after new) (sym (add-one i))
          (record {
            ordered = made ∙ (λ j. set (h.ordered j) i (ordered_node (order_as j) (h.ordered j) i (same j).callers (slice_index p.demands i) (flag_at p.paused i)));
            within = first_next (over_in p) i h.within ∙ sym over_as ∙ none;
            replied = replied_next;
          })

      pub cut : (over : RuleOver) → over_with i s.rule now asked p.caps ≡ Some over → IsCut p n over new
      cut over e =
          let f : over_in p i ≡ Some over = sym over_as ∙ e in
          let node = over_node i (rule_in p i) (replies_of p.handed (asked_in p i)) (λ index. get_or p.caps index 0) over f in
          record {
            first = first_stays (over_in p) (suc i) n over (omega arith) (first_next (over_in p) i h.within ∙ f);
            replied = subst (λ m. HaveReplied p n m new) (sym node) replied_next;
          }
