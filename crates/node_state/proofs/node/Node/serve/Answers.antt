use Rattle.std.proofs.Common.{◌-◌, ◌∙◌, ap, sym, length}
use Rattle.node_state.specs.Holdings.{claims_served, left_over}
use Rattle.node_state.specs.Sound.{sound_served, whole, length-served}
use Rattle.node_state.proofs.node.Node.serve.Goals as goal

pub invariant_of-self-else-paused : goal.invariant_of-self-else-paused
invariant_of-self-else-paused c =
    let v = c.deref_mut-else-paused.ensures.value in
    let len = c.deref_mut-else-paused.ensures.len in
    let e = c.serve_all-self-inside.ensures.claims in
    let new = c.serve_all-self-inside.new.claims in
    sound_served _ c.if-self.to_customers _ _ c.self.invariant
    (c.serve_all-self-inside.ensures.left ∙ ap (λ cs. left_over cs (c.self.inside.stock - c.if-self.to_customers)) v)
    (whole _ new _ (sym len ∙ sym (ap length e ∙ length-served _ _)) ∙ e ∙ ap (λ cs. claims_served cs (c.self.inside.stock - c.if-self.to_customers)) v)
