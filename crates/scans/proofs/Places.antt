-- A text at a place: the byte there, the end, and one byte further. They rest on the library's laws of `drop` and `get_or`.
-- Assumes nothing.
use mathlib.Core.Path.{◌≡◌, sym, ◌∙◌}
use mathlib.Core.List.{List, ◌∷◌}
use Prim.Native.Nat.{ℕ, ◌+◌, ◌≤◌, ◌<◌}
use native.Mathlib.Nat.{add-zero}
use native.Mathlib.Decide.{dec_lt}
use native.Mathlib.Numerals.{add-one}
use native.Mathlib.Omega.{arith}
use lib.ListN.{length, get_or, drop, drop_of_length-le}
use lib.Seq.{drop-cons, get_or-drop}
use Rattle.scans.specs.Bytes.{byte_at}

pub byte_in : (l : List ℕ) (at : ℕ) → get_or l at 0 ≡ byte_at (drop at l)
byte_in l at = sym (get_or-drop at l 0 0 ∙ rw add-zero)

pub byte_past : (l : List ℕ) (at : ℕ) → length l ≤ at → 0 ≡ byte_at (drop at l)
byte_past l at h = rw (drop_of_length-le l h)

pub byte_inside : (l : List ℕ) (at : ℕ) → 0 < byte_at (drop at l) → at < length l
byte_inside l at h = inside (dec_lt at (length l))
  where
    inside : Dec (at < length l) → at < length l
    inside (yes g) = g
    inside (no g) = absurd (omega (arith, byte_past l at (omega arith)))

pub drop_step : (l : List ℕ) (at : ℕ) → at < length l → drop at l ≡ get_or l at 0 ∷ drop (at + 1) l
drop_step l at h = drop-cons l at 0 h ∙ rw add-one
