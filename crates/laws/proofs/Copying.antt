-- A text copied over a part of a buffer, one byte or word after the other: none is, one more, all of them. They rest on the library's laws of `paste`.
-- Assumes nothing.
use mathlib.Core.Path.{◌≡◌, refl}
use mathlib.Core.List.{List}
use Prim.Native.Nat.{ℕ, ◌+◌, ◌≤◌, ◌<◌, zero-le}
use native.Mathlib.Numerals.{add-one}
use native.Mathlib.Omega.{arith}
use lib.ListN.{length, get_or, set, length-set}
use lib.Seq.{paste, paste-zero, paste-suc}
use Rattle.laws.specs.Over.{over}

-- The buffer d has room for x at the place, and i of x are copied: it is now d'.
pub record Copied (d : List ℕ) (at : ℕ) (x d' : List ℕ) (i : ℕ) : Type 0 where
  pub room : at + length x ≤ length d
  pub within : i ≤ length x
  pub kept : length d' ≡ length d
  pub copied : d' ≡ paste d at x i

pub copied_none : {d : List ℕ} {at : ℕ} {x : List ℕ} → at + length x ≤ length d → Copied d at x d 0
copied_none {d} {at} {x} h = record { room = h; within = zero-le; kept = refl; copied = paste-zero d at x }

pub copied_more : {d : List ℕ} {at : ℕ} {x d' : List ℕ} {i : ℕ} → Copied d at x d' i → i < length x → Copied d at x (set d' (at + i) (get_or x i 0)) (i + 1)
copied_more {d} {at} {x} {d'} {i} c h = record {
  room = c.room;
  within = omega arith;
  kept = rw length-set c.kept;
  copied = rw (c.copied, paste-suc d at x i 0 (omega (arith, c.room)) h, add-one);
}

pub copied_all : {d : List ℕ} {at : ℕ} {x d' : List ℕ} {i : ℕ} → Copied d at x d' i → length x ≤ i → d' ≡ over d at x
unfolding over
copied_all {x = x} {i = i} c h =
    let all : i ≡ length x = omega (arith, c.within) in
    rw all at c.copied
