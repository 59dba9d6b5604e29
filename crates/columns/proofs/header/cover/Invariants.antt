-- `cover` meets its contract. The loop's invariant: it is said of c columns whether they are covered.
-- Assumes nothing.
use Prim.Native.Nat.{◌≤◌}
use Rattle.labels.specs.Labels.{labels_in}
use Rattle.columns.specs.Inner.{Covering}
use Rattle.columns.proofs.header.cover.Given as goal

abbrev pub invariant-loop-c : goal.invariant-loop-c
invariant-loop-c l = Covering (labels_in l.labels.levels.now l.labels.marks.now) l.reader l.numbers l.c l.initial.kept l.kept × (l.c ≤ l.fields)
