-- `settle::sweep` meets its contract. Assumes nothing.
use Rattle.solver.proofs.Sweep.{Swept}
use Rattle.solver.proofs.settle.sweep.Given as goal

abbrev pub invariant-loop-k : goal.invariant-loop-k
invariant-loop-k l = Swept l.head l.rules l.back l.initial.labels l.labels l.changed l.k
