-- `decimal` meets its contract: the bytes of the run are digits. Assumes nothing.
use native.Mathlib.Omega.{arith}
use Rattle.tokens.proofs.Answers.{decimal_digits}
use Rattle.tokens.proofs.decimal.Goals as goal

pub value-value-requires : goal.value-value-requires
value-value-requires c = decimal_digits _ _ (omega arith) (omega arith)
