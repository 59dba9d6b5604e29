-- What a text over a part of a buffer leaves in it: its length, what stands at the place and behind it, and two texts in a row, which are one. They rest on
-- the library's laws of `paste`, `take`, `drop` and `set`.
-- Assumes nothing.
use mathlib.Core.Path.{◌≡◌, sym, ap, ◌∙◌}
use mathlib.Core.List.{List, [], ◌∷◌, ◌++◌, append_assoc, append-nil}
use Prim.Native.Nat.{ℕ, suc, ◌+◌, ◌≤◌, ◌<◌}
use native.Mathlib.Nat.{add-zero, add_assoc, le_refl}
use native.Mathlib.Numerals.{add-one}
use native.Mathlib.Omega.{arith}
use lib.ListN.{length, take, drop, set, length-append, take-append-drop}
use lib.Seq.{take-length, length-take-le, length-paste, take-paste, drop-paste, drop_at, drop-drop, set_split, take-set-le, append_snoc}
use Rattle.laws.specs.Over.{over}

pub over_is : (d : List ℕ) (at : ℕ) (x : List ℕ) → over d at x ≡ take at d ++ x ++ drop (at + length x) d
unfolding over
over_is d at x = rw (take-length x)

pub over_none : (d : List ℕ) (at : ℕ) → over d at [] ≡ d
over_none d at = over_is d at [] ∙ rw (append-nil, add-zero) (take-append-drop at d)

pub set_over : (d : List ℕ) (i b : ℕ) → i < length d → set d i b ≡ over d i (b ∷ [])
set_over d i b h = set_split d i b h ∙ sym (over_is d i (b ∷ []) ∙ append_snoc (take i d) b (drop (i + 1) d) ∙ rw add-one)

module _ (d : List ℕ) (at : ℕ) (x : List ℕ) (room : at + length x ≤ length d) where
  pub over_length : length (over d at x) ≡ length d
  unfolding over
  over_length = length-paste d at x (length x) room (le_refl _)

  pub take_over : take (at + length x) (over d at x) ≡ take at d ++ x
  unfolding over
  take_over = take-paste d at x (length x) (omega arith) (le_refl _) ∙ rw (take-length x)

  pub rest_over : drop (at + length x) (over d at x) ≡ drop (at + length x) d
  unfolding over
  rest_over = drop-paste d at x (length x) (omega arith) (le_refl _)

  pub drop_over : drop at (over d at x) ≡ x ++ drop (at + length x) d
  drop_over = ap (drop at) (over_is d at x) ∙ rw append_assoc (drop_at (take at d) (x ++ drop (at + length x) d) at (length-take-le at d (omega arith)))

  pub over_over : (y : List ℕ) → over (over d at x) (at + length x) y ≡ over d at (x ++ y)
  over_over y =
      over_is (over d at x) (at + length x) y
      ∙ rw (take_over, ← drop-drop (length y) (at + length x) (over d at x), rest_over, drop-drop)
      (sym (over_is d at (x ++ y) ∙ rw (length-append, ← add_assoc, ← append_assoc)))

  pub over_set : (b : ℕ) → at + length x < length d → over (set d (at + length x) b) at x ≡ over d at (x ++ (b ∷ []))
  over_set b h =
      over_is (set d (at + length x) b) at x
      ∙ rw (take-set-le at d (at + length x) b (omega arith), tail)
      (sym (over_is d at (x ++ (b ∷ [])) ∙ rw (length-append, ← add_assoc, ← append_assoc) (append_snoc (take at d ++ x) b (drop (at + length x + 1) d))))
    where
      tail : drop (at + length x) (set d (at + length x) b) ≡ b ∷ drop (at + length x + 1) d
      tail =
          ap (drop (at + length x)) (set_split d (at + length x) b h)
          ∙ drop_at (take (at + length x) d) (b ∷ drop (suc (at + length x)) d) (at + length x) (length-take-le (at + length x) d room)
          ∙ rw add-one
