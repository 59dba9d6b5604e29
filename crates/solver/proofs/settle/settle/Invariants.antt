-- `settle::settle` meets its contract. The measure is the sum of all levels and mark words. Assumes nothing.
use Rattle.solver.specs.InnerSteps.{sum_of}
use Rattle.solver.proofs.Sweep.{Settling}
use Rattle.solver.proofs.settle.settle.Given as goal

abbrev pub invariant-loop-labels : goal.invariant-loop-labels
invariant-loop-labels l = Settling l.head l.rules l.initial.labels l.labels

abbrev pub decreases-loop-labels : goal.decreases-loop-labels
decreases-loop-labels l = sum_of l.labels
