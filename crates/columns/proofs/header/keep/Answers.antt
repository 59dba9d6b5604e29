-- `keep` meets its contract. Assumes nothing.
use borrow.Author.Rules.{rules}
use Rattle.columns.proofs.Heads.{keep_roomless, keep_all}
use Rattle.columns.proofs.header.keep.Goals as goal

pub returns-then-kept-fields : goal.returns-then-kept-fields
returns-then-kept-fields c = search (keep_roomless, rules)

pub returns : goal.returns
returns c = search (keep_all, rules)
