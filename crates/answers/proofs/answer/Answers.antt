-- `answer` meets its contract: the text that was made, copied out. Assumes nothing.
use Rattle.answers.proofs.Says.{routine_says}
use Rattle.answers.proofs.answer.Goals as goal

pub returns : goal.returns
returns c = rw (c.ok_or.ensures.value, c.at.ensures) (routine_says c.make-len.ensures c.put.ensures)
