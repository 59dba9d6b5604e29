-- `take` meets its contract. Assumes nothing.
use borrow.Author.Rules.{rules}
use Rattle.stripping.proofs.Taking.{take_none, take_bad, take_later, take_more, put_ready, place_fits, take_less, take_on, take_end}
use Rattle.stripping.proofs.take.Goals as goal

pub loop-cut-init : goal.loop-cut-init
loop-cut-init c = search (take_none, rules)

pub put_row-requires : goal.put_row-requires
put_row-requires c = search (put_ready, rules)

pub overflow_add-cut : goal.overflow_add-cut
overflow_add-cut c = search (place_fits, rules)

pub loop-cut-smaller : goal.loop-cut-smaller
loop-cut-smaller c = search (take_less, rules)

pub loop-cut-preserved : goal.loop-cut-preserved
loop-cut-preserved c = search (take_on, rules)

pub returns-in-Bad : goal.returns-in-Bad
returns-in-Bad c = search (take_bad, rules)

pub returns-in-Bad-2 : goal.returns-in-Bad-2
returns-in-Bad-2 c = search (take_later, rules)

pub returns-in-Bad-2-2 : goal.returns-in-Bad-2-2
returns-in-Bad-2-2 c = search (take_more, rules)

pub returns : goal.returns
returns c = search (take_end, rules)
