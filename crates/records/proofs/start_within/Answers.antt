-- `start_within` meets its contract. Assumes nothing.
use borrow.Author.Rules.{rules}
use Rattle.records.proofs.NthField.{start_first, start_before, start_past}
use Rattle.records.proofs.start_within.Goals as goal

pub returns-then-c-eq0 : goal.returns-then-c-eq0
returns-then-c-eq0 c = search (start_first, rules)

pub returns-then-before-most : goal.returns-then-before-most
returns-then-before-most c = search (start_before, rules)

pub returns : goal.returns
returns c = search (start_past, rules)
