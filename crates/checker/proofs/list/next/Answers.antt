-- `checker::list::next` meets its contract.
-- Assumes nothing.
use Rattle.checker.proofs.Walking.{goes_on}
use borrow.Author.Rules.{rules}
use Rattle.checker.proofs.list.next.Goals as goal

pub returns : goal.returns
returns c = search (goes_on, rules)
