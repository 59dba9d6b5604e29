-- `lower::lower_all` meets its contract. Assumes nothing.
use Rattle.solver.specs.InnerLowers.{Lowers}
use Rattle.solver.proofs.lower.lower_all.Given as goal

abbrev pub invariant-loop-item : goal.invariant-loop-item
invariant-loop-item l = Lowers l.head l.rules 0 l.item l.initial.labels l.labels
