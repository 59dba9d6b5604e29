-- `find_at` meets its contract. Assumes nothing.
use Rattle.reader.proofs.LookUps.{found_at}
use borrow.Author.Rules.{rules}
use Rattle.reader.proofs.names.Known.find_at.Goals as goal

pub returns : goal.returns
returns c = search (found_at, rules)
