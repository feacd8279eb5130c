-- What `simulate` prints.
use Rattle.std.specs.Prelude.{ℕ, zero, suc, List, [], ◌++◌, length, codes, decimal}
use Rattle.std.specs.List.{flat_map, range_with_len}
use Rattle.std.proofs.Common.{get_or}
use Rattle.network_model.specs.declared.network.Network.{Network}
use Rattle.network_model.specs.declared.network.NodeSpec.{NodeSpec}
use Rattle.decision_model.specs.Nodes.{node_at}
use Rattle.node_state.specs.Handed.{Handed}
use Rattle.node_state.specs.Totals.{Line}
use Rattle.node_state.specs.Table.{network_row, network_total}

abbrev pub field_text : List ℕ → ℕ → List ℕ
field_text word number = word ++ decimal number

-- what a node saw, ordered and made
abbrev pub flows_text : Line → List ℕ
flows_text line = field_text (codes " seen ") line.units_seen ++ field_text (codes " order ") line.order ++ field_text (codes " made ") line.units_made

-- what a node holds and owes, and what it costs
abbrev pub ends_text : Line → List ℕ
ends_text line =
    field_text (codes " stock ") line.stock ++ field_text (codes " owed ") line.owed ++ field_text (codes " due ") line.due
    ++ field_text (codes " cost ") line.cost ++ codes "\n"

-- the line of a node in a period, from 1
abbrev pub node_line : ℕ → List ℕ → Line → List ℕ
node_line period name line = field_text (codes "period ") period ++ codes " node " ++ name ++ flows_text line ++ ends_text line

abbrev pub no_line : Line
no_line = record { units_seen = 0; order = 0; units_made = 0; stock = 0; owed = 0; due = 0; cost = 0 }

-- the lines of a period, one a node
abbrev pub period_lines : ℕ → List NodeSpec → List Line → List ℕ
period_lines period nodes lines = flat_map (λ place. node_line period (node_at nodes place).name (get_or lines place no_line)) (range_with_len 0 (length lines))

abbrev pub total_line : ℕ → List ℕ
total_line total = field_text (codes "total ") total ++ codes "\n"

-- the lines of the first k periods, with rules that the caller hands in
abbrev pub first_periods : Network → List Handed → ℕ → List ℕ
first_periods net handed zero = []
first_periods net handed (suc t) = first_periods net handed t ++ period_lines (suc t) net.nodes (network_row net handed t)

-- the whole table: each period's lines, and the sum of all costs
abbrev pub table_text : Network → List Handed → List ℕ
table_text net handed = first_periods net handed net.periods ++ total_line (network_total net handed net.periods)
