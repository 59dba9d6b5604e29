-- `holds_new_name` meets its contract. Assumes nothing.
use borrow.Author.Rules.{rules}
use Rattle.items.proofs.Told.{new_name_none, new_name_told}
use Rattle.items.proofs.holds_new_name.Goals as goal

pub returns-then-holds_name : goal.returns-then-holds_name
returns-then-holds_name c = search (new_name_told, rules)

pub returns-else-holds_name : goal.returns-else-holds_name
returns-else-holds_name c = search (new_name_none, rules)
