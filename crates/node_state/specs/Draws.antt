-- Demand that is drawn: in each period one word for each node whose demand has a law, in listed order.
use Rattle.std.specs.Prelude.{ℕ, zero, suc, ◌+◌, ◌*◌, List, length, cond, Option, Some, None}
use Rattle.std.proofs.Common.{get_or}
use Rattle.rand_pcg.specs.Lcg.{Lcg, started, increment_of}
use Rattle.rand_pcg.specs.Pcg.{pcg32, multiplier_64}
use Rattle.demand_law.specs.Picked.{picked}
use Rattle.network_model.specs.declared.network.Network.{Network}
use Rattle.network_model.specs.declared.network.NodeSpec.{NodeSpec}
use Rattle.network_model.specs.declared.network.Demand.{Demand}
use Rattle.network_model.specs.declared.network.Demand.TheVariants.{Nobody, Trace, Drawn}
use Rattle.network_model.specs.Nodes.{node_at}
use Rattle.network_model.specs.Network.{is_drawn}

-- ---- words
-- the generator of a seed, on stream 1
abbrev pub generator_of : ℕ → Lcg
generator_of seed = started 64 multiplier_64 seed (increment_of 64 1)

-- the generator after so many words
abbrev pub after_words : Lcg → ℕ → Lcg
after_words g zero = g
after_words g (suc n) = (pcg32 (after_words g n)).1

-- its word at a place, from 0
abbrev pub word_at : Lcg → ℕ → ℕ
word_at g n = (pcg32 (after_words g n)).0

-- the generator of a network; where it has no seed, nothing is drawn
abbrev pub network_generator : Option ℕ → Lcg
network_generator (Some seed) = generator_of seed
network_generator None = generator_of 0

-- ---- the word of each draw
-- how many of the first i nodes have a law
abbrev pub drawn_before : List NodeSpec → ℕ → ℕ
drawn_before nodes zero = 0
drawn_before nodes (suc i) = drawn_before nodes i + cond (is_drawn (node_at nodes i).demand) 1 0

-- how many words the first n periods take
abbrev pub words_of : Network → ℕ → ℕ
words_of net n = n * drawn_before net.nodes (length net.nodes)

-- the word that node i takes in period suc t
abbrev pub drawn_word : Network → ℕ → ℕ → ℕ
drawn_word net i t = word_at (network_generator net.seed) (words_of net t + drawn_before net.nodes i)

-- ---- demand
-- the demand of period suc t, by the word that is drawn for it
abbrev pub demand_of : Demand → ℕ → ℕ → ℕ
demand_of Nobody t word = 0
demand_of (Trace ds) t word = get_or ds t 0
demand_of (Drawn law) t word = picked law word

-- what the customers of node i demand in a period, from 1
abbrev pub own_demand : Network → ℕ → ℕ → ℕ
own_demand net i zero = 0
own_demand net i (suc t) = demand_of (node_at net.nodes i).demand t (drawn_word net i t)
