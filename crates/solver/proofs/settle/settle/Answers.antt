-- `settle::settle` meets its contract: settling ends with the first sweep that changes nothing, be it a forward or a back one. Assumes nothing.
use Rattle.solver.proofs.Sweep.{settling_more, settling_end}
use Rattle.solver.proofs.settle.settle.Goals as goal
use Rattle.solver.proofs.settle.settle.Goals.{then-loop-labels-test+else-sweep, else-loop-labels-test}

pub loop-labels-preserved : goal.loop-labels-preserved
loop-labels-preserved c = settling_more (settling_more c.loop-labels.invariant c.sweep.ensures) c.sweep-in-loop-labels.ensures

pub returns : goal.returns
returns c =
    elim c.loop-labels-test.branch [
      | then-loop-labels-test+else-sweep w ↦
          settling_end (settling_more c.loop-labels.invariant c.sweep.ensures) (rw w.labels-is w.sweep-in-loop-labels.ensures) w.if-sweep.false c.unheld.ensures
      | else-loop-labels-test w ↦ settling_end c.loop-labels.invariant (rw w.labels-is c.sweep.ensures) w.loop-labels-test.false c.unheld.ensures
    ]
