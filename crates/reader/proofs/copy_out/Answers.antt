-- `copy_out` meets its contract. Assumes nothing.
use Rattle.reader.proofs.Answers.{no_items, no_rules, copied_book}
use borrow.Author.Rules.{rules}
use Rattle.reader.proofs.copy_out.Goals as goal

pub returns-then-items-bytes : goal.returns-then-items-bytes
returns-then-items-bytes c = search (no_items, rules)

pub returns-then-rules-size : goal.returns-then-rules-size
returns-then-rules-size c = search (no_rules, rules)

pub returns : goal.returns
returns c = search (copied_book, rules)
