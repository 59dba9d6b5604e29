-- `ended` meets its contract, variant by variant. Assumes nothing.
use borrow.Author.Rules.{rules}
use Rattle.records.proofs.Sizes.{ended_line, ended_end, ended_end_more, ended_cr_more, ended_cut_more}
use Rattle.records.proofs.ended.Goals as goal

pub returns-in-Line : goal.returns-in-Line
returns-in-Line c = search (ended_line, rules)

pub returns-then-last : goal.returns-then-last
returns-then-last c = search (ended_end, rules)

pub returns-else-last : goal.returns-else-last
returns-else-last c = search (ended_end_more, rules)

pub returns-else-last-2 : goal.returns-else-last-2
returns-else-last-2 c = search (ended_cr_more, rules)

pub returns-else-last-3 : goal.returns-else-last-3
returns-else-last-3 c = search (ended_cut_more, rules)
