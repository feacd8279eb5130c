use Rattle.std.proofs.Common.{◌<◌, ◌∙◌, List, [], ◌∷◌, arith, length, ap, length-append, sym, subst}
use Rattle.std.proofs.lemmas.List.{length-set}
use Rattle.network_sim.specs.Machine.{station, no_station, AreCallersOf}
use Rattle.network_sim.specs.Supply.{AreSuppliersOf}
use Rattle.network_sim.specs.Simulated.{IsStationOf}
use Rattle.network_sim.specs.declared.station.Station.{Station}
use Rattle.network_sim.proofs.Ordered.{get_or_any}
use Rattle.network_sim.proofs.Lists.{pushed, kept_all}
use Rattle.network_sim.proofs.stations.find_stations.Goals as goal

pub loop-place-init : goal.loop-place-init
loop-place-init c = record {
  callers_each = c.requires.wired.callers_each;
  suppliers_each = c.requires.wired.suppliers_each;
  callers = λ k more lt. c.requires.wired.callers_of k lt;
  suppliers = λ k more lt. c.requires.wired.suppliers_of_each k lt;
  all = ap length c.new-stations.ensures.items;
  each = λ k less. absurd (omega arith);
}

pub station_of-requires-clause-callers : goal.station_of-requires-clause-callers
station_of-requires-clause-callers c =
    let lt : c.loop-place.place < length c.args.network.now.nodes = let a = c.loop-place-test.true in let b = ap length c.as_slice-place-end.ensures in omega arith in
    subst (AreCallersOf c.args.network.now.nodes c.loop-place.place)
    (sym (c.replace-callers.ensures.value ∙ c.index_mut.ensures.value ∙ get_or_any c.loop-place.wiring.callers.items c.loop-place.place _ [] (let a = c.loop-place.invariant.callers_each in omega arith)))
    (c.loop-place.invariant.callers c.loop-place.place (omega arith) lt)

pub station_of-requires-clause-suppliers : goal.station_of-requires-clause-suppliers
station_of-requires-clause-suppliers c =
    let lt : c.loop-place.place < length c.args.network.now.nodes = let a = c.loop-place-test.true in let b = ap length c.as_slice-place-end.ensures in omega arith in
    subst (AreSuppliersOf c.args.network.now.nodes c.loop-place.place)
    (sym (c.replace-suppliers.ensures.value ∙ c.index_mut-in-loop-place.ensures.value ∙ get_or_any c.loop-place.wiring.suppliers.items c.loop-place.place _ [] (let a = c.loop-place.invariant.suppliers_each in omega arith)))
    (c.loop-place.invariant.suppliers c.loop-place.place (omega arith) lt)

pub loop-place-preserved : goal.loop-place-preserved
loop-place-preserved c =
    let e = c.in_ok-push.ensures.items in
    record {
      callers_each = length-set c.loop-place.wiring.callers.items c.loop-place.place c.replace-callers.new.dest ∙ c.loop-place.invariant.callers_each;
      suppliers_each = length-set c.loop-place.wiring.suppliers.items c.loop-place.place c.replace-suppliers.new.dest ∙ c.loop-place.invariant.suppliers_each;
      callers = kept_all (λ k cs. AreCallersOf c.args.network.now.nodes k cs) c.loop-place.wiring.callers.items c.loop-place.place (length c.args.network.now.nodes) c.replace-callers.new.dest [] c.loop-place.invariant.callers;
      suppliers = kept_all (λ k cs. AreSuppliersOf c.args.network.now.nodes k cs) c.loop-place.wiring.suppliers.items c.loop-place.place (length c.args.network.now.nodes) c.replace-suppliers.new.dest [] c.loop-place.invariant.suppliers;
      all = ap length e ∙ (let a = length-append c.loop-place.stations.items (c.in_ok-station_of.field-0 ∷ []) in let b = c.loop-place.invariant.all in omega arith);
      each = λ k less. subst (λ (xs : List Station). IsStationOf c.args.network.now k (station xs k)) (sym e)
          (pushed (λ n s. IsStationOf c.args.network.now n s) c.loop-place.stations.items c.in_ok-station_of.field-0 no_station c.loop-place.place c.loop-place.invariant.all c.loop-place.invariant.each
          c.in_ok-station_of.ensures k less);
    }
