-- `closing` meets its contract. The loop's invariant: i is a place between quotes. The measure is what is left of the text. Assumes nothing.
use borrow.Author.Rules.{rules}
use Rattle.records.proofs.Past.{past_none, past_run, past_never, past_doubled, past_closing}
use Rattle.records.proofs.closing.Goals as goal

pub loop-i-init : goal.loop-i-init
loop-i-init c = search (past_none, rules)

pub returns-then-text-quote : goal.returns-then-text-quote
returns-then-text-quote c = search (past_run, past_never, rules)

pub returns-then-byte_at-ne-QUOTE : goal.returns-then-byte_at-ne-QUOTE
returns-then-byte_at-ne-QUOTE c = search (past_closing, rules)

pub loop-i-preserved : goal.loop-i-preserved
loop-i-preserved c = search (past_doubled, rules)

pub returns : goal.returns
returns c = search (past_never, rules)
