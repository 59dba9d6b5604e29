-- `put` meets its contract. Assumes nothing.
use borrow.Author.Rules.{rules}
use Rattle.puts.proofs.Placed.{put_at}
use Rattle.puts.proofs.put.Goals as goal

pub returns : goal.returns
returns c = search (put_at, rules)
