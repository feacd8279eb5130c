-- The demands that a network states, and those that are drawn.
use Rattle.std.proofs.Common.{◌≡◌, ℕ, zero, suc, ◌+◌, ◌-◌, ◌*◌, ◌<◌, ◌≤◌, ◌⊎◌, inl, inr, cond, List, [], ◌∷◌, length, sum, slice_index, refl, sym, ◌∙◌, ap, subst, arith, get_or}
use Rattle.std.proofs.Math.ListN.{set}
use Rattle.std.proofs.lemmas.Bool.{cases_lt}
use Rattle.std.proofs.lemmas.List.{get_or-set_same, get_or-set_other}
use Rattle.rand_pcg.specs.Lcg.{Lcg}
use Rattle.rand_pcg.specs.Pcg.{pcg32}
use Rattle.demand_law.specs.Law.{greatest_of, upto_of}
use Rattle.network_model.specs.declared.network.Network.{Network}
use Rattle.network_model.specs.declared.network.Demand.{Demand}
use Rattle.network_model.specs.declared.network.Demand.TheVariants.{Nobody, Trace, Drawn}
use Rattle.network_model.specs.Nodes.{node_at, greatest, top_of, IsReadableDemand}
use Rattle.network_model.specs.Network.{is_drawn}
use Rattle.node_state.specs.Handed.{Handed}
use Rattle.node_state.specs.Draws.{demand_of, own_demand, after_words, word_at, words_of, drawn_before, network_generator}
use Rattle.node_state.specs.Table.{setting_of}
use Rattle.network_sim.specs.declared.station.Station.{Station}
use Rattle.network_sim.specs.declared.state.State.{State}
use Rattle.network_sim.specs.Machine.{station, drawn_in}
use Rattle.network_sim.specs.Simulated.{AreStationsOf, IsStateAfter, AreDemands}
use Rattle.network_sim.proofs.Boxes.{taken_all}

-- ---- what is at most the greatest demand
pub at_most_greatest : (ds : List ℕ) (t : ℕ) → get_or ds t 0 ≤ greatest ds
at_most_greatest [] t = omega arith
at_most_greatest (d ∷ ds) zero = omega arith
at_most_greatest (d ∷ ds) (suc t) = let a = at_most_greatest ds t in omega arith

upto_all : (ws : List ℕ) (d : ℕ) → length ws ≤ d + 1 → upto_of ws d ≡ sum ws
upto_all ws d le = ap sum (taken_all ws (d + 1) le)

-- the least demand up to which the weights pass a share of them
pub pick_small : (ws : List ℕ) (n share : ℕ) → share < upto_of ws n → ((d : ℕ) → d < n → upto_of ws d ≤ share) → n ≤ greatest_of ws
pick_small ws n share above least = by (cases_lt (length ws - 1) n)
  where
    by : (length ws - 1 < n) ⊎ (n ≤ length ws - 1) → n ≤ length ws - 1
    by (inr le) = le
    by (inl more) =
        let a = least (length ws - 1) more in
        let b = upto_all ws (length ws - 1) (omega arith) in
        let c = upto_all ws n (omega arith) in
        absurd (omega arith)

-- ---- words
pub more_words : (g : Lcg) (m n : ℕ) → after_words (after_words g m) n ≡ after_words g (m + n)
more_words g m zero = let e : m ≡ m + 0 = omega arith in ap (after_words g) e
more_words g m (suc n) = let e : suc (m + n) ≡ m + suc n = omega arith in (λ j. (pcg32 (more_words g m n j)).1) ∙ ap (after_words g) e

-- ---- a fact of each entry, by its place
pub set_each : {X : Type 0} (P : ℕ → X → Type 0) (xs : List X) (i : ℕ) (v d : X) → i < length xs → ((k : ℕ) → k < i → P k (get_or xs k d)) → P i v →
    (k : ℕ) → k < i + 1 → P k (get_or (set xs i v) k d)
set_each P xs i v d lt done here k less = by (cases_lt k i)
  where
    by : (k < i) ⊎ (i ≤ k) → P k (get_or (set xs i v) k d)
    by (inl small) = subst (P k) (sym (get_or-set_other xs i k v d (omega arith))) (done k small)
    by (inr ge) = let same : i ≡ k = omega arith in subst (λ n. P n (get_or (set xs i v) n d)) same (subst (P i) (sym (get_or-set_same xs i v d lt)) here)

-- ---- the stations of a network
drawn_same : (net : Network) (stations : List Station) → AreStationsOf net stations → (i : ℕ) → i ≤ length net.nodes → drawn_in stations i ≡ drawn_before net.nodes i
drawn_same net stations are zero le = refl
drawn_same net stations are (suc i) le = λ j. drawn_same net stations are i (omega arith) j + cond (is_drawn ((are.each i (omega arith)).demand j)) 1 0

-- their laws have few weights
few_of : (periods : ℕ) (demand : Demand) (law : List ℕ) → IsReadableDemand periods demand → demand ≡ Drawn law → sum law ≤ 1000000000
few_of periods Nobody law is e = cc
few_of periods (Trace ds) law is e = cc
few_of periods (Drawn ws) law is e = let same : sum ws ≡ sum law = ap sum (drawn_law e) in let a = is.total_in_range in omega arith
  where
    law_or : Demand → List ℕ
    law_or (Drawn ws) = ws
    law_or Nobody = []
    law_or (Trace ds) = []

    drawn_law : Drawn ws ≡ Drawn law → ws ≡ law
    drawn_law e = ap law_or e

pub few_weights : (net : Network) (stations known : List Station) → known ≡ stations → AreStationsOf net stations → (k : ℕ) (law : List ℕ) → k < length known → (station known k).demand ≡ Drawn law → sum law ≤ 1000000000
few_weights net stations known same are k law lt e =
    let s = are.each k (let a = are.all in let b = ap length same in omega arith) in
    few_of net.periods (station stations k).demand law s.demanded (ap (λ xs. (station xs k).demand) (sym same) ∙ e)

module _ (net : Network) (handed : List Handed) (n : ℕ) (state : State) (after : IsStateAfter (setting_of net handed) n state) (words : Lcg) (drawn : words ≡ after_words (network_generator net.seed) (words_of net n))
    (known : List Station) (same : known ≡ state.stations.items) where
  word_is : (k : ℕ) → k < length net.nodes → word_at words (drawn_in known k) ≡ word_at (network_generator net.seed) (words_of net n + drawn_before net.nodes k)
  word_is k lt =
      (λ j. word_at (drawn j) (drawn_in (same j) k))
      ∙ ap (λ g. (pcg32 g).0) (more_words (network_generator net.seed) (words_of net n) (drawn_in state.stations.items k))
      ∙ ap (λ m. word_at (network_generator net.seed) (words_of net n + m)) (drawn_same net state.stations.items after.stations k (omega arith))

  -- what was drawn are the demands of the next period
  pub drawn_are : (units new room : List ℕ) → units ≡ new → length new ≡ length room → length room ≡ length net.nodes →
      ((k : ℕ) → k < length known → slice_index new k ≡ demand_of (station known k).demand state.played (word_at words (drawn_in known k))) →
      ((k : ℕ) → k < length known → slice_index new k ≤ top_of (station known k).demand) →
      AreDemands (setting_of net handed) (suc n) units
  drawn_are units new room f len all each small = subst (AreDemands (setting_of net handed) (suc n)) (sym f) (record {
    all = len ∙ all;
    each = λ k lt. is k lt;
    few = λ k lt.
        (let a = small k (in_known k lt) in
        let b = is k lt in
        let c : top_of (station known k).demand ≡ top_of (node_at net.nodes k).demand = ap (λ xs. top_of (station xs k).demand) same ∙ ap top_of (after.stations.each k lt).demand in
        omega arith);
  })
    where
      in_known : (k : ℕ) → k < length net.nodes → k < length known
      in_known k lt = let a = ap length same in let b = after.stations.all in omega arith

      is : (k : ℕ) → k < length net.nodes → slice_index new k ≡ own_demand net k (suc n)
      is k lt =
          each k (in_known k lt)
          ∙ (λ j. demand_of (station (same j) k).demand (after.played j) (word_is k lt j))
          ∙ ap (λ d. demand_of d n (word_at (network_generator net.seed) (words_of net n + drawn_before net.nodes k))) (after.stations.each k lt).demand

  -- and their words are used up
  pub words_next : (new : Lcg) → new ≡ after_words words (drawn_in known (length known)) → new ≡ after_words (network_generator net.seed) (words_of net (suc n))
  words_next new made =
      let count : length known ≡ length net.nodes = ap length same ∙ after.stations.all in
      let more : n * drawn_before net.nodes (length net.nodes) + drawn_before net.nodes (length net.nodes) ≡ suc n * drawn_before net.nodes (length net.nodes) = omega arith in
      made
      ∙ (λ j. after_words (drawn j) (drawn_in (same j) (count j)))
      ∙ more_words (network_generator net.seed) (words_of net n) (drawn_in state.stations.items (length net.nodes))
      ∙ ap (λ m. after_words (network_generator net.seed) (words_of net n + m)) (drawn_same net state.stations.items after.stations (length net.nodes) (omega arith))
      ∙ ap (after_words (network_generator net.seed)) more
