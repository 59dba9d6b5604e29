-- `kept_columns` meets its contract, one law for each of its tests. Assumes nothing.
use borrow.Author.Rules.{rules}
use Rattle.columns.proofs.Says.{says_items, says_labels, says_label, says_header}
use Rattle.columns.proofs.kept_columns.Goals as goal

pub returns-then-not-items_ok : goal.returns-then-not-items_ok
returns-then-not-items_ok c = search (says_items, rules)

pub returns-then-not-has_room : goal.returns-then-not-has_room
returns-then-not-has_room c = search (says_labels, rules)

pub returns-in-Some : goal.returns-in-Some
returns-in-Some c = search (says_label, rules)

pub returns : goal.returns
returns c = search (says_header, rules)
