-- `label` meets its contract. Assumes nothing.
use borrow.Author.Rules.{rules}
use Rattle.assign.proofs.Says.{says_short, says_refused, says_labelled}
use Rattle.assign.proofs.label.Goals as goal

pub returns-then-items-bytes : goal.returns-then-items-bytes
returns-then-items-bytes c = search (says_short, rules)

pub returns-in_err-solve : goal.returns-in_err-solve
returns-in_err-solve c = search (says_refused, rules)

pub returns : goal.returns
returns c = search (says_labelled, rules)
