use Rattle.std.proofs.Common.{◌≡◌, List, [], ◌∷◌, ◌++◌, pos, refl, ap, ◌∙◌, sym, append_assoc}
use Rattle.decision_model.specs.declared.kinds.Kind.TheVariants.{Lots}
use Rattle.value_cert.proofs.Writing.{line_failed, line_then, lines_failed, lines_then}
use Rattle.value_cert.specs.Lots.{order_lines}
use Rattle.value_cert.specs.declared.line.CertLine.{CertLine}
use Rattle.value_cert.specs.declared.line.CertLine.TheVariants.{Head, Cost, End}
use Rattle.value_cert.proofs.lots.write.Goals as goal

-- the last two lines behind the others
last_lines : (orders : List CertLine) (head cost line : CertLine) → line ≡ cost → (head ∷ orders) ++ line ∷ End ∷ [] ≡ head ∷ (orders ++ cost ∷ [] ++ End ∷ [])
last_lines orders head cost line is = ap (λ l. head ∷ (orders ++ l ∷ End ∷ [])) is ∙ ap (λ t. head ∷ t) (sym (append_assoc orders (cost ∷ []) (End ∷ [])))

pub returns-in_err-write_line : goal.returns-in_err-write_line
returns-in_err-write_line g c = line_failed c.in_err-write_line.ensures c.head_line-head.ensures c.from_residual.ensures.0

pub returns-in_err-write_orders : goal.returns-in_err-write_orders
returns-in_err-write_orders g c =
    let cert = c.args.cert.now in
    let lines : order_lines c.as_slice.result.now c.as_slice-2.result.now ≡ order_lines cert.orders cert.duals = cc in
    lines_failed (Cost (pos cert.cost) ∷ End ∷ []) (line_then c.in_ok-write_line.ensures c.head_line-head.ensures c.in_err-write_orders.ensures lines)
    c.from_residual-in_err-write_orders.ensures.0 (last_lines (order_lines cert.orders cert.duals) (Head Lots (pos 1) (pos 1)) (Cost (pos cert.cost)) _ refl)

pub returns : goal.returns
returns g c =
    let cert = c.args.cert.now in
    let lines : order_lines c.as_slice.result.now c.as_slice-2.result.now ≡ order_lines cert.orders cert.duals = cc in
    lines_then (line_then c.in_ok-write_line.ensures c.head_line-head.ensures c.in_ok-write_orders.ensures lines) c.write_to_end.ensures
    (last_lines (order_lines cert.orders cert.duals) (Head Lots (pos 1) (pos 1)) (Cost (pos cert.cost)) c.cost_line.result c.cost_line.ensures)
