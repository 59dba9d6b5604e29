-- Runs of bytes of one kind: a step of a run, its length, the bytes in it, and where it ends. They rest on induction over the bytes.
-- Assumes nothing.
use mathlib.Core.Path.{◌≡◌, refl, sym, ap}
use mathlib.Core.Bool.{Bool, true, false, cond}
use mathlib.Core.List.{List, [], ◌∷◌, ◌++◌}
use Prim.Native.Nat.{ℕ, zero, suc, ◌+◌, ◌≤◌, ◌<◌}
use native.Mathlib.Nat.{zero-add}
use native.Mathlib.Omega.{arith}
use lib.ListN.{length, get_or, take}
use Rattle.std.specs.List.{prefix_len}
use Rattle.std.proofs.lemmas.List.Sums.{prefix_len-le-length}
use Rattle.scans.specs.Bytes.{run_len}

module _ (kind : ℕ → Bool) where
  -- A step of a run, and its end.
  pub run_nil : run_len kind [] ≡ 0
  unfolding run_len
  run_nil = refl

  pub run_yes : (b : ℕ) (l : List ℕ) → kind b ≡ true → run_len kind (b ∷ l) ≡ suc (run_len kind l)
  unfolding run_len
  run_yes b l e = rw e

  pub run_no : (b : ℕ) (l : List ℕ) → kind b ≡ false → run_len kind (b ∷ l) ≡ 0
  unfolding run_len
  run_no b l e = rw e

  -- A run is the front of the text that the library counts.
  pub run_prefix : (l : List ℕ) → run_len kind l ≡ prefix_len kind l
  unfolding run_len
  run_prefix [] = refl
  run_prefix (b ∷ l) = rw (run_prefix l) (ap (λ n. cond (kind b) n 0) (omega arith))

  -- A run is no longer than the text.
  pub run_le : (l : List ℕ) → run_len kind l ≤ length l
  run_le l = rw run_prefix (prefix_len-le-length kind l)

  -- Each byte in a run is of the kind.
  pub run_at : (l : List ℕ) (k : ℕ) → k < run_len kind l → kind (get_or l k 0) ≡ true
  unfolding run_len
  run_at [] k h = absurd (omega arith)
  run_at (b ∷ l) k h = step k (kind b) refl (run_at l) h
    where
      step : (k : ℕ) (t : Bool) → kind b ≡ t → ((j : ℕ) → j < run_len kind l → kind (get_or l j 0) ≡ true)
          → k < cond t (suc (run_len kind l)) 0 → kind (get_or (b ∷ l) k 0) ≡ true
      step k false e f h = absurd (omega arith)
      step zero true e f h = e
      step (suc k) true e f h = f k (omega arith)

  -- Bytes that are all of the kind are a run, and go on as a run by as much as what follows them is one.
  pub run_all : (l : List ℕ) → ((k : ℕ) → k < length l → kind (get_or l k 0) ≡ true) → run_len kind l ≡ length l
  unfolding run_len
  run_all [] f = refl
  run_all (b ∷ l) f = rw (f 0 (omega arith)) (ap suc (run_all l (λ k h. f (suc k) (omega arith))))

  pub run_append : (l rest : List ℕ) → run_len kind l ≡ length l → run_len kind (l ++ rest) ≡ length l + run_len kind rest
  unfolding run_len
  run_append [] rest e = sym (zero-add (run_len kind rest))
  run_append (b ∷ l) rest e = step (kind b) e (run_append l rest)
    where
      step : (t : Bool) → cond t (suc (run_len kind l)) 0 ≡ suc (length l)
          → (run_len kind l ≡ length l → run_len kind (l ++ rest) ≡ length l + run_len kind rest)
          → cond t (suc (run_len kind (l ++ rest))) 0 ≡ suc (length l) + run_len kind rest
      step true e f = omega (arith, f (omega arith))
      step false e f = absurd (omega arith)

  pub all_head : (b : ℕ) (l : List ℕ) → run_len kind (b ∷ l) ≡ suc (length l) → kind b ≡ true
  all_head b l e = run_at (b ∷ l) 0 (omega arith)

  pub all_tail : (b : ℕ) (l : List ℕ) → run_len kind (b ∷ l) ≡ suc (length l) → run_len kind l ≡ length l
  all_tail b l e = omega (arith, run_yes b l (all_head b l e))

  -- A part of a run, from its front, is a run.
  pub run_take : (l : List ℕ) (n : ℕ) → n ≤ run_len kind l → run_len kind (take n l) ≡ n
  unfolding run_len
  run_take l zero h = refl
  run_take [] (suc n) h = absurd (omega arith)
  run_take (b ∷ l) (suc n) h = step (kind b) h (run_take l n)
    where
      step : (t : Bool) → suc n ≤ cond t (suc (run_len kind l)) 0 → (n ≤ run_len kind l → run_len kind (take n l) ≡ n)
          → cond t (suc (run_len kind (take n l))) 0 ≡ suc n
      step true h f = ap suc (f (omega arith))
      step false h f = absurd (omega arith)
