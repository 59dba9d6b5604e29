-- `check_list` meets its contract. The loop's invariant: what is known of the rules so far.
-- Assumes nothing.
use Rattle.checker.specs.List.{list_at}
use Rattle.checker.specs.InnerWalking.{SeenSoFar}
use Rattle.checker.proofs.list.check_list.Given as goal

abbrev pub invariant-loop-i : goal.invariant-loop-i
invariant-loop-i l = SeenSoFar l.head (list_at l.rules) l.labels.levels.now l.labels.marks.now l.i l.seen
