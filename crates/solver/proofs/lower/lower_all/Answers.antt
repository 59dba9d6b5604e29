-- `lower::lower_all` meets its contract. Assumes nothing.
use Rattle.solver.proofs.Lowering.{lowered_none, lowered_more, lowered_all}
use borrow.Author.Rules.{rules}
use Rattle.solver.proofs.lower.lower_all.Goals as goal

pub loop-item-init : goal.loop-item-init
loop-item-init c = lowered_none

pub loop-item-preserved : goal.loop-item-preserved
loop-item-preserved c = search (lowered_more, rules)

pub returns : goal.returns
returns c = search (lowered_all, rules)
