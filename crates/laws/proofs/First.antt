-- Searches that go up by one, and that the first number of which a statement fails is the only one, so that a search has one answer.
-- Assumes nothing.
use mathlib.Core.Path.{◌≡◌}
use mathlib.Core.Bool.{Bool, false, not}
use Prim.Native.Nat.{ℕ, ◌+◌, ◌≤◌, ◌<◌}
use native.Mathlib.Decide.{dec_lt}
use native.Mathlib.Nat.{not-suc-le-zero}
use native.Mathlib.Omega.{arith}
use borrow.Author.Count.{below_more}
use Rattle.laws.specs.Tells.{Tells}
use Rattle.laws.specs.First.{AllBelow, FirstFailing, Sought}
use Rattle.laws.proofs.Tells.{told_yes}

pub all_none : {P : ℕ → Type 0} → AllBelow P 0
all_none = record { each = λ j s. absurd (not-suc-le-zero s) }

pub all_more : {P : ℕ → Type 0} {i : ℕ} → AllBelow P i → P i → AllBelow P (i + 1)
all_more p here = record { each = below_more _ _ p.each here }

-- One number more of which a test was passed.
pub all_told : {P : ℕ → Type 0} {i : ℕ} {b : Bool} → AllBelow P i → Tells (P i) b → not b ≡ false → AllBelow P (i + 1)
all_told p told passed = all_more p (told_yes told passed)

-- The search stops at a number of which the statement fails, or past the last one.
pub sought_here : {P : ℕ → Type 0} {n i : ℕ} → i < n → AllBelow P i → (P i → ⊥) → Sought P n i
sought_here s p bad = record { within = omega arith; found = λ l. record { below = s; before = p; fails = bad }; nowhere = λ l. absurd (omega arith) }

pub sought_nowhere : {P : ℕ → Type 0} {n i : ℕ} → n ≤ i → AllBelow P i → Sought P n n
sought_nowhere s p = record { within = omega arith; found = λ l. absurd (omega arith); nowhere = λ l. record { each = λ j t. p.each j (omega arith) } }

-- A statement that fails of one number does not hold of all.
pub first_not_all : {P : ℕ → Type 0} {n i : ℕ} → FirstFailing P n i → AllBelow P n → ⊥
first_not_all {i = i} x p = x.fails (p.each i x.below)

-- There is only one first number.
pub first_unique : {P : ℕ → Type 0} {n i j : ℕ} → FirstFailing P n i → FirstFailing P n j → i ≡ j
first_unique {P} {n} {i} {j} x y = pick (dec_lt i j) (dec_lt j i)
  where
    pick : Dec (i < j) → Dec (j < i) → i ≡ j
    pick (yes l) k = absurd (x.fails (y.before.each i l))
    pick (no l) (yes k) = absurd (y.fails (x.before.each j k))
    pick (no l) (no k) = omega arith

-- Any two answers of a search are equal.
pub sought_unique : {P : ℕ → Type 0} {n i j : ℕ} → Sought P n i → Sought P n j → i ≡ j
sought_unique {P} {n} {i} {j} x y = pick (dec_lt i n) (dec_lt j n)
  where
    pick : Dec (i < n) → Dec (j < n) → i ≡ j
    pick (yes l) (yes k) = first_unique (x.found l) (y.found k)
    pick (yes l) (no k) = absurd (first_not_all (x.found l) (y.nowhere (omega arith)))
    pick (no l) (yes k) = absurd (first_not_all (y.found k) (x.nowhere (omega arith)))
    pick (no l) (no k) = omega (arith, x.within, y.within)
