-- `read_row` meets its contract. The loop's invariant: so many fields are read, and their ends are stored. Assumes nothing.
use borrow.Author.Rules.{rules}
use Rattle.records.proofs.Reading.{row_starts, row_room, row_order, row_fits, row_fits_on, row_last, row_on, row_many}
use Rattle.records.proofs.read_row.Goals as goal

pub loop-c-init : goal.loop-c-init
loop-c-init c = search (row_starts, rules)

pub overflow_add-end : goal.overflow_add-end
overflow_add-end c = search (row_fits, rules)

pub bounds-ends-c : goal.bounds-ends-c
bounds-ends-c c = search (row_room, rules)

pub overflow_sub-i : goal.overflow_sub-i
overflow_sub-i c = search (row_order, rules)

pub returns-in_default : goal.returns-in_default
returns-in_default c = search (row_last, rules)

pub overflow_add-i : goal.overflow_add-i
overflow_add-i c = search (row_fits_on, rules)

pub loop-c-preserved : goal.loop-c-preserved
loop-c-preserved c = search (row_on, rules)

pub returns : goal.returns
returns c = search (row_many, rules)
