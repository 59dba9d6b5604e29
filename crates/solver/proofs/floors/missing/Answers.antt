-- `floors::missing` meets its contract. Assumes nothing.
use Rattle.solver.proofs.Lacking.{missing_made}
use borrow.Author.Rules.{rules}
use Rattle.solver.proofs.floors.missing.Goals as goal

pub returns : goal.returns
returns c = search (missing_made, rules)
