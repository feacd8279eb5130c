use Rattle.std.proofs.Common.{◌≡◌, ◌≤◌, length, take, nat_le, None, All}
use Rattle.network_model.specs.Nodes.{first_failing}
use Rattle.network_model.specs.Load.{load, orders_most}
use Rattle.network_model.proofs.load.overloaded_node.Given as goal

abbrev pub invariant-loop-place : goal.invariant-loop-place
invariant-loop-place l = record {
  length : length l.orders ≡ 64;
  passed : first_failing (λ k. nat_le (load l.network k) 1000000000000) l.place ≡ None;
  filled : take l.place l.orders ≡ orders_most l.network l.place;
  light : All (λ order. order ≤ 1000000000000) (take l.place l.orders);
}
