-- `hand_out` meets its contract. Assumes nothing.
use Rattle.solver.specs.Solving.{held}
use Rattle.solver.specs.InnerLowers.{HandsOut}
use Rattle.solver.proofs.hand_out.Given as goal

abbrev pub invariant-loop-i : goal.invariant-loop-i
invariant-loop-i l = HandsOut l.fn.labels l.i (held l.initial.levels l.initial.marks) (held l.levels l.marks)
