-- `left_join` meets its contract. The loop's invariant: the left labels so far are joined.
-- Assumes nothing.
use Rattle.rules.proofs.Laws.{JoinSoFar}
use Rattle.rules.proofs.left_join.Given as goal

abbrev pub invariant-loop-item : goal.invariant-loop-item
invariant-loop-item g l = JoinSoFar l.fn.rule (g.L.Labelled.labels l.labels) l.item-index l.join
