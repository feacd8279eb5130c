use Rattle.demand_law.proofs.copies.+sum_copies.Given as goal

abbrev pub decreases-sum_copies : goal.decreases-sum_copies
decreases-sum_copies l = l.count
