-- `cover` meets its contract. The loop's invariant: it is said of c columns whether they are covered.
-- Assumes nothing.
use native.Mathlib.Omega.{arith}
use Rattle.columns.proofs.Covered.{cover_none, cover_more, cover_all}
use Rattle.columns.proofs.header.cover.Goals as goal

pub loop-c-init : goal.loop-c-init
loop-c-init c = (cover_none, omega arith)

pub loop-c-preserved : goal.loop-c-preserved
loop-c-preserved c = (
  cover_more c.loop-c.invariant.0 (omega arith) c.label_at.ensures c.covers.ensures,
  omega arith,
)

pub returns : goal.returns
returns c = cover_all (omega arith) c.loop-c.invariant.0
