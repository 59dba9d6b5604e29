-- `put_name` meets its contract: the part that is lent is the name. Assumes nothing.
use native.Mathlib.Omega.{arith}
use borrow.Author.Rules.{rules}
use Rattle.writer.proofs.Lines.{name_inside, name_put}
use Rattle.writer.proofs.book.put_name.Goals as goal

pub overflow_mul-from : goal.overflow_mul-from
overflow_mul-from c = omega (arith, name_inside c.requires c.name_len-len.ensures)

pub overflow_add-from : goal.overflow_add-from
overflow_add-from c = omega (arith, name_inside c.requires c.name_len-len.ensures)

pub slice_bounds-put-end : goal.slice_bounds-put-end
slice_bounds-put-end c = omega (arith, name_inside c.requires c.name_len-len.ensures)

pub returns : goal.returns
returns c = search (name_put, rules)
