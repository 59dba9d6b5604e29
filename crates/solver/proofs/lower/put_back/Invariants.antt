-- `lower::put_back` meets its contract. Assumes nothing.
use Rattle.solver.proofs.Choosing.{ChosenSoFar}
use Rattle.solver.proofs.lower.put_back.Given as goal

abbrev pub invariant-loop-i : goal.invariant-loop-i
invariant-loop-i l = ChosenSoFar l.w l.old l.initial.labels l.labels l.i
