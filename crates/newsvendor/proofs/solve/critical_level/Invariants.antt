use Rattle.std.proofs.Common.{◌≡◌, ℕ, ◌+◌, ◌*◌, ◌<◌, sum, take}
use Rattle.demand_law.specs.Law.{upto_of}
use Rattle.newsvendor.proofs.solve.critical_level.Given as goal

abbrev pub invariant-loop-level : goal.invariant-loop-level
invariant-loop-level l = record {
  upto : l.upto ≡ sum (take l.level l.item.law);
  ratio : l.ratio ≡ l.item.holding + l.item.stockout;
  target : l.target ≡ l.item.stockout * sum l.item.law;
  first : (k : ℕ) → k < l.level → (l.item.holding + l.item.stockout) * upto_of l.item.law k < l.item.stockout * sum l.item.law;
}
