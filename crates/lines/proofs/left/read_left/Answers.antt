-- `read_left` meets its contract. Assumes nothing.
use borrow.Author.Rules.{rules}
use Rattle.lines.proofs.Passed.{passed_bad, passed_fits, passed_last, passed_more}
use Rattle.lines.proofs.left.read_left.Goals as goal

pub returns-in_err-n : goal.returns-in_err-n
returns-in_err-n c = search (passed_bad, rules)

pub overflow_add-end : goal.overflow_add-end
overflow_add-end c = search (passed_fits, rules)

pub returns-then-byte_at-ne-PLUS : goal.returns-then-byte_at-ne-PLUS
returns-then-byte_at-ne-PLUS c = search (passed_last, rules)

pub loop-n-preserved : goal.loop-n-preserved
loop-n-preserved c = search (passed_more, c.in_ok-n.ensures, rules)
