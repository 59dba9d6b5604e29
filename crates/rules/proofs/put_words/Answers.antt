-- `put_words` meets its contract. Assumes nothing.
use native.Mathlib.Omega.{arith}
use Rattle.rules.proofs.Put.{words_put}
use Rattle.rules.proofs.put_words.Goals as goal

pub returns : goal.returns
returns c = words_put (omega arith) (omega arith) (omega arith) c.copy_from_slice.ensures.after
