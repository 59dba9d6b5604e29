-- `read_field` meets its contract: nothing, a field without quotes, a quote that none closes, a field in quotes. Assumes nothing.
use borrow.Author.Rules.{rules}
use Rattle.records.proofs.Past.{read_end, read_plain, read_open, read_quoted}
use Rattle.records.proofs.read_field.Goals as goal

pub returns-then-text-at : goal.returns-then-text-at
returns-then-text-at c = search (read_end, rules)

pub returns-then-text-at-ne-QUOTE : goal.returns-then-text-at-ne-QUOTE
returns-then-text-at-ne-QUOTE c = search (read_plain, rules)

pub returns-in-None : goal.returns-in-None
returns-in-None c = search (read_open, rules)

pub returns-in-Some : goal.returns-in-Some
returns-in-Some c = search (read_quoted, rules)
