-- `settle::sweep` meets its contract. Assumes nothing.
use Rattle.solver.proofs.Sweep.{swept_none, swept_more, swept_all, turn_named}
use borrow.Author.Rules.{rules}
use Rattle.solver.proofs.settle.sweep.Goals as goal

pub loop-k-init : goal.loop-k-init
loop-k-init c = swept_none

pub push-changed-requires : goal.push-changed-requires
push-changed-requires c = search (turn_named, rules)

pub loop-k-preserved : goal.loop-k-preserved
loop-k-preserved c = search (swept_more, rules)

pub returns : goal.returns
returns c = search (swept_all, rules)
