-- `value` meets its contract. The loop's invariant: v is the value of the digits so far. Assumes nothing.
use borrow.Author.Rules.{rules}
use Rattle.tokens.proofs.Valued.{valued_none, valued_mul, valued_add, valued_more}
use Rattle.tokens.proofs.numbers.value.Goals as goal

pub loop-b-init : goal.loop-b-init
loop-b-init c = valued_none

pub overflow_mul-v : goal.overflow_mul-v
overflow_mul-v c = search (valued_mul, rules)

pub overflow_add-v : goal.overflow_add-v
overflow_add-v c = search (valued_add, rules)

pub loop-b-preserved : goal.loop-b-preserved
loop-b-preserved c = search (valued_more, rules)
