-- `right_side` meets its contract. Assumes nothing.
use borrow.Author.Rules.{rules}
use Rattle.writer.proofs.Lines.{right_named, right_name, right_class}
use Rattle.writer.proofs.book.right_side.Goals as goal

pub put_name-requires : goal.put_name-requires
put_name-requires c = search (right_named, rules)

pub returns-then-rule-eq-FOLLOW : goal.returns-then-rule-eq-FOLLOW
returns-then-rule-eq-FOLLOW c = search (right_name, rules)

pub returns-else-rule-eq-FOLLOW : goal.returns-else-rule-eq-FOLLOW
returns-else-rule-eq-FOLLOW c = search (right_class, rules)
