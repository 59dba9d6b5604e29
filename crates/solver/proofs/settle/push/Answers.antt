-- `settle::push` meets its contract. Assumes nothing.
use Rattle.solver.proofs.Push.{push_cap, push_floor, push_follow, cap_item, follow_item}
use borrow.Author.Rules.{rules}
use Rattle.solver.proofs.settle.push.Goals as goal

pub lower-requires : goal.lower-requires
lower-requires c = search (cap_item, rules)

pub lower-requires-in_default : goal.lower-requires-in_default
lower-requires-in_default c = search (follow_item, rules)

pub returns-in-0 : goal.returns-in-0
returns-in-0 c = search (push_cap, rules)

pub returns-in-1 : goal.returns-in-1
returns-in-1 c = search (push_floor, rules)

pub returns-in_default : goal.returns-in_default
returns-in_default c = search (push_follow, rules)
