-- `put_class` meets its contract. Assumes nothing.
use native.Mathlib.Omega.{arith}
use Rattle.tokens.proofs.Values.{decimal_most}
use Rattle.puts.proofs.Digits.{class_nowhere, class_there}
use Rattle.puts.proofs.put_class.Goals as goal

pub overflow_add-k : goal.overflow_add-k
overflow_add-k c = omega (arith, c.decimal_len-k.ensures, decimal_most c.args.class.level)

pub returns-in_err-end : goal.returns-in_err-end
returns-in_err-end c = class_nowhere c.args.class c.decimal_len-k.ensures c.from_residual.ensures c.in_err-end.ensures

pub returns : goal.returns
returns c = class_there c.args.class c.decimal_len-k.ensures c.in_ok-end.ensures c.put_digits.ensures c.put_digits-2.ensures
