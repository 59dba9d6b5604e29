-- `is_plain` meets its contract: it is one of the four bytes, or any other. Assumes nothing.
use borrow.Author.Rules.{rules}
use Rattle.records.proofs.Steps.{plain_none, plain_other}
use Rattle.records.proofs.is_plain.Goals as goal
use Rattle.records.proofs.is_plain.Goals.{in-44, in_default}

pub returns : goal.returns
returns c =
    elim c.match-matches.branch [
      | in-44 w ↦ rw w.matches-is (plain_none w.in-44.is)
      | in_default w ↦ rw w.matches-is (search (plain_other, rules))
    ]
