-- `end_step` meets its contract. Assumes nothing.
use Rattle.reader.proofs.Turns.{line_inside, line_short, end_wrong, end_more, end_right}
use borrow.Author.Rules.{rules}
use Rattle.reader.proofs.line.end_step.Goals as goal

pub returns-then-line-c : goal.returns-then-line-c
returns-then-line-c c = search (end_wrong, rules)

pub overflow_sub-text : goal.overflow_sub-text
overflow_sub-text c = search (line_inside, rules)

pub line_len-requires : goal.line_len-requires
line_len-requires c = search (line_short, rules)

pub returns-then-text-at : goal.returns-then-text-at
returns-then-text-at c = search (end_more, rules)

pub returns : goal.returns
returns c = search (end_right, rules)
