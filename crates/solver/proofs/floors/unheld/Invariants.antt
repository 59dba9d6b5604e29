-- `floors::unheld` meets its contract. The loop's invariant: the parts in which some floor so far is not met. Assumes nothing.
use Rattle.solver.proofs.Lacking.{LacksBefore}
use Rattle.solver.proofs.floors.unheld.Given as goal

abbrev pub invariant-loop-r : goal.invariant-loop-r
invariant-loop-r l = LacksBefore l.rules l.labels l.r l.all
