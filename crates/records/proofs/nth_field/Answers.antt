-- `nth_field` meets its contract. Assumes nothing.
use borrow.Author.Rules.{rules}
use Rattle.records.proofs.NthField.{part_cut}
use Rattle.records.proofs.nth_field.Goals as goal

pub returns : goal.returns
returns c = search (part_cut, rules)
