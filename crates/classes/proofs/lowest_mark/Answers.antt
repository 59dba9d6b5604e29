-- `lowest_mark` meets its contract: the count of trailing zeros is the number of the lowest bit that is set. Assumes nothing.
use borrow.Author.Rules.{rules}
use Rattle.classes.proofs.Bits.{lowest_one}
use Rattle.classes.proofs.lowest_mark.Goals as goal

pub returns : goal.returns
returns c = search (lowest_one, rules)
