-- `lower::lower_item` meets its contract. Assumes nothing.
use Rattle.solver.proofs.Lowering.{LevelSoFar}
use Rattle.solver.proofs.lower.lower_item.Given as goal

abbrev pub invariant-loop-v : goal.invariant-loop-v
invariant-loop-v l = LevelSoFar l.head l.rules l.i l.v l.initial.labels l.labels
