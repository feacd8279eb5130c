use Rattle.std.proofs.Common.{◌≡◌, ℕ, All, length, sym, ap, ◌∙◌, subst, arith}
use Rattle.network_model.specs.Pauses.{IsReadableSpan}
use Rattle.json_forms.specs.NodeNames.{Name}
use Rattle.network_json.proofs.Places.{names_count}
use Rattle.network_json.proofs.network.read_network.Goals as goal

pub returns-clause-readable : goal.returns-clause-readable
returns-clause-readable c =
    let count = c.in_ok-nodes.ensures.count in
    let names : length {A = Name} c.in_ok-names.names ≡ length c.in_ok-nodes.nodes = ap length c.in_ok-names.ensures ∙ names_count c.in_ok-node_items.node_items.now ∙ sym count in
    record {
      some_periods = c.in_ok-periods.ensures.range.0;
      few_periods = c.in_ok-periods.ensures.range.1;
      some_nodes = omega (arith, count, c.in_ok-node_items.ensures.least);
      few_nodes = omega (arith, count, c.in_ok-node_items.ensures.most);
      nodes = c.in_ok-nodes.ensures.each;
      few_pauses = omega (arith, c.in_ok-pauses.ensures.count, c.in_ok-pause_items.ensures.most);
      pauses = subst (λ (n : ℕ). All (IsReadableSpan c.in_ok-periods.periods n) c.in_ok-pauses.pauses) names c.in_ok-pauses.ensures.each;
    }
