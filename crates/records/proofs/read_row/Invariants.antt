-- `read_row` meets its contract. The loop's invariant: so many fields are read, and their ends are stored. Assumes nothing.
use Rattle.records.proofs.Reading.{RowAt}
use Rattle.records.proofs.read_row.Given as goal

abbrev pub invariant-loop-c : goal.invariant-loop-c
invariant-loop-c l = RowAt l.text l.at l.most l.initial.ends l.ends l.room l.i l.c
