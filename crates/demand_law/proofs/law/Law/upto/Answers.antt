use Rattle.std.proofs.Common.{◌≡◌, ◌∙◌, ap, length, subst, arith, rules, min}
use Rattle.std.specs.Vec.{vec_len}
use Rattle.demand_law.specs.Law.{IsLaw, running_sums}
use Rattle.demand_law.proofs.RunningSums.{upto_of-found}
use Rattle.demand_law.proofs.law.Law.upto.Goals as goal

pub index-requires : goal.index-requires
index-requires c =
    let law = subst IsLaw c.self.view_is c.self.invariant.0 in
    let found = upto_of-found c.args.self.now _ c.args.d c.min.result law (c.self.invariant.1 ∙ ap running_sums c.self.view_is) (c.min.ensures ∙ ap (min c.args.d) c.greatest.ensures) in
    let len : vec_len c.self.inside.sums ≡ length c.self.inside.sums.items = search rules in
    omega (arith, len, found.0)

pub returns : goal.returns
returns c =
    let law = subst IsLaw c.self.view_is c.self.invariant.0 in
    let found = upto_of-found c.args.self.now _ c.args.d c.min.result law (c.self.invariant.1 ∙ ap running_sums c.self.view_is) (c.min.ensures ∙ ap (min c.args.d) c.greatest.ensures) in
    c.index.ensures ∙ found.1 c.index.result.now
