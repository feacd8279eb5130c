use Rattle.std.proofs.Common.{◌≡◌, [], ◌∷◌, ◌++◌, subst, sym}
use Rattle.least_values.specs.Sweeps.{IsLeastPair, better_of}
use Rattle.std.proofs.lemmas.Int.{to_z-of_z}
use Rattle.least_values.proofs.LeastPairs.{least_of_more}
use Rattle.least_values.proofs.sweep.Sweep.push.Goals as goal

-- src/sweep.rt:20:5
pub returns : goal.returns
returns c = λ pairs known. let made : c.better_of.result ≡ better_of c.args.self.now.best (c.args.at, c.args.value) = simp (to_z-of_z _ _ c.ranges.at, to_z-of_z _ _ c.ranges.value) at c.better_of.ensures in subst (IsLeastPair (pairs ++ (c.args.at, c.args.value) ∷ [])) (sym made) (least_of_more pairs c.args.self.now.best (c.args.at, c.args.value) known)
