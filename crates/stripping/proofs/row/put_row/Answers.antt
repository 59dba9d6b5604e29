-- `put_row` meets its contract. Assumes nothing.
use borrow.Author.Rules.{rules}
use Rattle.stripping.proofs.Putting.{put_starts, keep_ready, put_on, line_ready, put_ends}
use Rattle.stripping.proofs.row.put_row.Goals as goal

pub loop-c-init : goal.loop-c-init
loop-c-init c = search (put_starts, rules)

pub keep-n-requires : goal.keep-n-requires
keep-n-requires c = search (keep_ready, rules)

pub loop-c-preserved : goal.loop-c-preserved
loop-c-preserved c = search (put_on, rules)

pub end_line-requires : goal.end_line-requires
end_line-requires c = search (line_ready, rules)

pub returns : goal.returns
returns c = search (put_ends, rules)
