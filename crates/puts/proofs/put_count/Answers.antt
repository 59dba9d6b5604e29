-- `put_count` meets its contract. Assumes nothing.
use borrow.Author.Rules.{rules}
use Rattle.puts.proofs.Digits.{count_nowhere, count_there}
use Rattle.puts.proofs.put_count.Goals as goal

pub returns-in_err-end : goal.returns-in_err-end
returns-in_err-end c = count_nowhere _ c.decimal_len.ensures c.from_residual.ensures c.in_err-end.ensures

pub returns : goal.returns
returns c = search (count_there, rules)
