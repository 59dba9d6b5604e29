-- `put_digits` meets its contract: one digit more, and all. Assumes nothing.
use borrow.Author.Rules.{rules}
use Rattle.puts.proofs.Digits.{digits_more, digits_done}
use Rattle.puts.proofs.put_digits.Goals as goal

pub loop-i-preserved : goal.loop-i-preserved
loop-i-preserved c = search (digits_more, rules)

pub returns : goal.returns
returns c = search (digits_done, rules)
