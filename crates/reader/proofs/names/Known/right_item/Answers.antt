-- `right_item` meets its contract. Assumes nothing.
use Rattle.reader.proofs.LookUps.{right_none, right_some}
use borrow.Author.Rules.{rules}
use Rattle.reader.proofs.names.Known.right_item.Goals as goal

pub returns-then-len-eq0 : goal.returns-then-len-eq0
returns-then-len-eq0 c = search (right_none, rules)

pub returns : goal.returns
returns c = search (right_some, rules)
