-- `went` meets its contract. Assumes nothing.
use Rattle.reader.proofs.Turns.{row_fits}
use borrow.Author.Rules.{rules}
use Rattle.reader.proofs.line.went.Goals as goal

pub overflow_add-next-2 : goal.overflow_add-next-2
overflow_add-next-2 c = search (row_fits, rules)

pub returns : goal.returns
returns c = rw (c.key_number.ensures, c.line_len.ensures)
