-- The network of a trial: words 430 to 432, and the trial's number as its seed.
use Rattle.std.proofs.Common.{◌≡◌, ℕ, zero, suc, ◌<◌, ◌≤◌, List, [], ◌∷◌, pos, Bool, true, nat_le, option_map, Some, None, refl, ap, arith}
use Rattle.std.specs.Prelude.{codes, IsTrue}
use Rattle.std.specs.List.{All}
use Rattle.std.proofs.lemmas.Bool.{le-leb}
use Rattle.std.proofs.lemmas.Int.{ints}
use Rattle.std.proofs.lemmas.List.Elements.{All-cons, All-nil}
use Rattle.demand_law.specs.Named.{uniform_law}
use Rattle.network_model.specs.declared.network.Network.{Network}
use Rattle.network_model.specs.declared.network.NodeSpec.{NodeSpec}
use Rattle.network_model.specs.declared.network.Link.{Link}
use Rattle.network_model.specs.declared.network.Rule.TheVariants.{Base, MinMax, Lot}
use Rattle.network_model.specs.declared.network.Demand.TheVariants.{Nobody, Drawn}
use Rattle.decision_model.specs.declared.instance.Instance.TheVariants as instance
use Rattle.decision_model.specs.Valid.{IsValid}
use Rattle.decision_model.specs.Nodes.{IsReadableNode, IsReadableLink, is_node_name, first_failing}
use Rattle.decision_model.specs.Shape.{misshapen_node}
use Rattle.decision_model.specs.Pauses.{overlapping_span}
use Rattle.decision_model.specs.Load.{load, overloaded_node}
use Rattle.trial_instances.specs.Numbers.{number}
use Rattle.trial_instances.specs.NumberFacts.{digits_law, number_most}

-- a node with customers, which orders from the depot up to a level
abbrev pub shop : List ℕ → ℕ → NodeSpec
shop name level = record {
  name = name;
  initial = 20;
  holding = 1;
  stockout = 10;
  rule = Base (pos level);
  sources = record { from = Some 3; lead = 1; order_lead = 0 } ∷ [];
  demand = Drawn (uniform_law 0 9);
}

abbrev pub depot : NodeSpec
depot = record {
  name = codes "depot";
  initial = 60;
  holding = 1;
  stockout = 0;
  rule = MinMax (pos 40) (pos 90);
  sources = record { from = Some 4; lead = 2; order_lead = 1 } ∷ [];
  demand = Nobody;
}

abbrev pub plant : NodeSpec
plant = record {
  name = codes "plant";
  initial = 50;
  holding = 1;
  stockout = 0;
  rule = Lot (pos 30) 50;
  sources = record { from = None; lead = 3; order_lead = 0 } ∷ record { from = None; lead = 2; order_lead = 0 } ∷ [];
  demand = Nobody;
}

-- three shops, their depot and its plant, at three levels of the shops
abbrev pub shops_network : ℕ → ℕ → ℕ → ℕ → Network
shops_network seed a b c = record {
  periods = 1000;
  seed = Some seed;
  nodes = shop (codes "a") a ∷ shop (codes "b") b ∷ shop (codes "c") c ∷ depot ∷ plant ∷ [];
  pauses = [];
}

unfoldable pub trial_network : ℕ → Network
trial_network trial = shops_network trial (number trial 430 20 40) (number trial 431 20 40) (number trial 432 20 40)

-- ---- no rule over several nodes is broken
shape_is_fine : (seed a b c : ℕ) → misshapen_node (shops_network seed a b c) ≡ None
unfolding misshapen_node
shape_is_fine seed a b c = refl

pauses_are_apart : (seed a b c : ℕ) → overlapping_span (shops_network seed a b c).pauses ≡ None
unfolding overlapping_span
pauses_are_apart seed a b c = refl

light_at : (seed a b c k : ℕ) → a ≤ 40 → b ≤ 40 → c ≤ 40 → k < 5 → load (shops_network seed a b c) k ≤ 1000000000000
unfolding uniform_law
light_at seed a b c zero few_a few_b few_c lt = omega arith
light_at seed a b c (suc zero) few_a few_b few_c lt = omega arith
light_at seed a b c (suc (suc zero)) few_a few_b few_c lt = omega arith
light_at seed a b c (suc (suc (suc zero))) few_a few_b few_c lt = omega arith
light_at seed a b c (suc (suc (suc (suc zero)))) few_a few_b few_c lt = omega arith
light_at seed a b c (suc (suc (suc (suc (suc k))))) few_a few_b few_c lt = absurd (omega arith)

none_fails : (passes : ℕ → Bool) (n : ℕ) → ((k : ℕ) → k < n → passes k ≡ true) → first_failing passes n ≡ None
none_fails passes zero all = refl
none_fails passes (suc n) all =
    let earlier = none_fails passes n (λ k lt. all k (omega arith)) in
    let last = all n (omega arith) in
    rw (earlier, last) refl

loads_are_light : (seed a b c : ℕ) → a ≤ 40 → b ≤ 40 → c ≤ 40 → overloaded_node (shops_network seed a b c) ≡ None
unfolding overloaded_node
loads_are_light seed a b c few_a few_b few_c =
    ap (option_map suc) (none_fails (λ k. nat_le (load (shops_network seed a b c) k) 1000000000000) 5 (λ k lt. le-leb _ _ (light_at seed a b c k few_a few_b few_c lt)))

-- ---- each node is readable
one_link : (link : Link) → IsReadableLink link → All IsReadableLink (link ∷ [])
one_link link is = All-cons IsReadableLink link [] is (All-nil IsReadableLink)

outside_links : All IsReadableLink plant.sources
outside_links zero d lt = record { lead = omega arith; order_lead = omega arith }
outside_links (suc zero) d lt = record { lead = omega arith; order_lead = omega arith }
outside_links (suc (suc k)) d lt = absurd (omega arith)

shop_is : (name : List ℕ) (level : ℕ) → IsTrue (is_node_name name) → level ≤ 40 → IsReadableNode 1000 (shop name level)
shop_is name level named few = record {
  name = named;
  initial = omega arith;
  holding = omega arith;
  stockout = omega arith;
  rule = record { least = omega (arith, ints); most = omega (arith, ints) };
  some_sources = omega arith;
  few_sources = omega arith;
  sources = one_link _ (record { lead = omega arith; order_lead = omega arith });
  demand = digits_law;
}

depot_is : IsReadableNode 1000 depot
depot_is = record {
  name = refl;
  initial = omega arith;
  holding = omega arith;
  stockout = omega arith;
  rule = (record { least = omega (arith, ints); most = omega (arith, ints) }, record { least = omega (arith, ints); most = omega (arith, ints) }, omega (arith, ints));
  some_sources = omega arith;
  few_sources = omega arith;
  sources = one_link _ (record { lead = omega arith; order_lead = omega arith });
  demand = tt;
}

plant_is : IsReadableNode 1000 plant
plant_is = record {
  name = refl;
  initial = omega arith;
  holding = omega arith;
  stockout = omega arith;
  rule = (record { least = omega (arith, ints); most = omega (arith, ints) }, omega arith, omega arith);
  some_sources = omega arith;
  few_sources = omega arith;
  sources = outside_links;
  demand = tt;
}

nodes_are : (seed a b c : ℕ) → a ≤ 40 → b ≤ 40 → c ≤ 40 → All (IsReadableNode 1000) (shops_network seed a b c).nodes
nodes_are seed a b c few_a few_b few_c zero d lt = shop_is (codes "a") a refl few_a
nodes_are seed a b c few_a few_b few_c (suc zero) d lt = shop_is (codes "b") b refl few_b
nodes_are seed a b c few_a few_b few_c (suc (suc zero)) d lt = shop_is (codes "c") c refl few_c
nodes_are seed a b c few_a few_b few_c (suc (suc (suc zero))) d lt = depot_is
nodes_are seed a b c few_a few_b few_c (suc (suc (suc (suc zero)))) d lt = plant_is
nodes_are seed a b c few_a few_b few_c (suc (suc (suc (suc (suc k))))) d lt = absurd (omega arith)

pub trial_network_valid : (trial : ℕ) → IsValid (instance.Network (trial_network trial))
unfolding trial_network
trial_network_valid trial =
    let a = number trial 430 20 40 in
    let b = number trial 431 20 40 in
    let c = number trial 432 20 40 in
    let few_a = number_most trial 430 20 40 (omega arith) in
    let few_b = number_most trial 431 20 40 (omega arith) in
    let few_c = number_most trial 432 20 40 (omega arith) in
    record {
      readable = record {
        some_periods = omega arith;
        few_periods = omega arith;
        some_nodes = omega arith;
        few_nodes = omega arith;
        nodes = nodes_are trial a b c few_a few_b few_c;
        few_pauses = omega arith;
        pauses = All-nil _;
      };
      seeded = refl;
      shaped = shape_is_fine trial a b c;
      apart = pauses_are_apart trial a b c;
      light = loads_are_light trial a b c few_a few_b few_c;
    }
