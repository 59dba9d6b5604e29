-- `lower::choose` meets its contract. Assumes nothing.
use Rattle.solver.proofs.Choosing.{chosen_made}
use borrow.Author.Rules.{rules}
use Rattle.solver.proofs.lower.choose.Goals as goal

pub returns : goal.returns
returns c = search (chosen_made, rules)
