-- `copy_out` meets its contract. Assumes nothing.
use Rattle.writer.proofs.Says.{says_copy}
use Rattle.writer.proofs.copy_out.Goals as goal

pub returns : goal.returns
returns c = rw c.ok_or.ensures.value (says_copy c.put.ensures c.at.ensures)
