-- What stands at the front of a text: nothing to take, a bad record, or a record that is taken; what waits for more is short. It rests on the laws of one
-- record.
-- Assumes nothing.
use mathlib.Core.Path.{◌≡◌, refl}
use mathlib.Core.Bool.{Bool, true, false}
use mathlib.Core.List.{List, [], ◌∷◌}
use Prim.Native.Nat.{ℕ, ◌+◌, ◌<◌}
use native.Mathlib.Omega.{arith}
use lib.ListN.{length}
use Rattle.records.specs.Rows.{Record, whole, more, bad, record_at, most_bytes, line_end}
use Rattle.records.proofs.Whole.{more_short}
use Rattle.exports.specs.Rows.{record_of, stopped, taken}
use Rattle.exports.proofs.Fitting.{unfinished_there, record_some}
use Rattle.exports.proofs.Taking.{taken_nothing, taken_whole, taken_more, taken_bad}

pub data AtFront (last : Bool) (columns : ℕ) (l : List ℕ) : Type 0 where
  nothing_yet : taken last columns l ≡ stopped false → length l < most_bytes + line_end → AtFront last columns l
  bad_first : taken last columns l ≡ stopped true → AtFront last columns l
  some_taken : 0 < length (taken last columns l).rows → 0 < (taken last columns l).used → AtFront last columns l

pub at_front : (last : Bool) (columns : ℕ) (l : List ℕ) → AtFront last columns l
at_front last columns [] = nothing_yet (taken_nothing last columns) (omega arith)
at_front last columns (b ∷ l) = by (record_of last columns (b ∷ l)) refl
  where
    by : (r : Record) → record_of last columns (b ∷ l) ≡ r → AtFront last columns (b ∷ l)
    by (whole fs k) e =
        let first = taken_whole last columns (b ∷ l) (omega arith) e in
        some_taken (rw first (omega arith)) (rw first (omega (arith, record_some columns last b l e)))
    by more e =
        nothing_yet (taken_more last columns (b ∷ l) e) (more_short last columns (b ∷ l) (unfinished_there columns (record_at last columns (b ∷ l)) e))
    by bad e = bad_first (taken_bad last columns (b ∷ l) (omega arith) e)
