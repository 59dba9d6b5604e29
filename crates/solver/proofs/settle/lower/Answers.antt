-- `settle::lower` meets its contract. Assumes nothing.
use Rattle.solver.proofs.OneItem.{lower_kept, lower_falls}
use borrow.Author.Rules.{rules}
use Rattle.solver.proofs.settle.lower.Goals as goal

pub returns-then-covers : goal.returns-then-covers
returns-then-covers c = search (lower_kept, rules)

pub returns : goal.returns
returns c = search (lower_falls, rules)
