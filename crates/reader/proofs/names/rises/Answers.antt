-- `rises` meets its contract. Assumes nothing.
use Rattle.reader.proofs.LookUps.{rising_one, rising_more, rising_not, rising_all}
use borrow.Author.Rules.{rules}
use Rattle.reader.proofs.names.rises.Goals as goal

pub loop-k-init : goal.loop-k-init
loop-k-init c = rising_one

pub overflow_sub-k : goal.overflow_sub-k
overflow_sub-k c = c.loop-k.invariant.least

pub returns-then-left-k : goal.returns-then-left-k
returns-then-left-k c = search (rising_not, rules)

pub loop-k-preserved : goal.loop-k-preserved
loop-k-preserved c = search (rising_more, rules)

pub returns : goal.returns
returns c = search (rising_all, rules)
