-- `item_step` meets its contract. Assumes nothing.
use Rattle.reader.proofs.Turns.{line_counts, item_from, item_end, item_within, name_ready, item_counted, item_took, item_not}
use borrow.Author.Rules.{rules}
use Rattle.reader.proofs.line.item_step.Goals as goal

pub overflow_add-from : goal.overflow_add-from
overflow_add-from c = search (item_from, rules)

pub overflow_add-end : goal.overflow_add-end
overflow_add-end c = search (item_end, rules)

pub slice_bounds-add_item-end : goal.slice_bounds-add_item-end
slice_bounds-add_item-end c = search (item_within, rules)

pub add_item-requires : goal.add_item-requires
add_item-requires c = search (name_ready, rules)

pub overflow_add-c : goal.overflow_add-c
overflow_add-c c = search (item_counted, rules)

pub went-requires : goal.went-requires
went-requires c = search (line_counts, rules)

pub returns-in-Ok : goal.returns-in-Ok
returns-in-Ok c = search (item_took, rules)

pub returns-in-Err : goal.returns-in-Err
returns-in-Err c = search (item_not, rules)
