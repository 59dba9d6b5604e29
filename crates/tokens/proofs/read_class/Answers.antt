-- `read_class` meets its contract: the bytes of the run are digits. Assumes nothing.
use native.Mathlib.Omega.{arith}
use Rattle.tokens.proofs.Answers.{hex_digits}
use Rattle.tokens.proofs.read_class.Goals as goal

pub value-requires : goal.value-requires
value-requires c = hex_digits _ _ (omega arith) (omega arith)
