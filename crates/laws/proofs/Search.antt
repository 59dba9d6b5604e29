-- The search below a bound: the first number of which a test says yes is one number. It rests on induction from the low end. Assumes nothing.
use mathlib.Core.Path.{◌≡◌, refl}
use mathlib.Core.Bool.{Bool, true, false, cond}
use Prim.Native.Nat.{ℕ, zero, suc, ◌≤◌, ◌<◌, zero-le}
use native.Mathlib.Nat.{le_antisymm}
use native.Mathlib.Decide.{dec_le}
use native.Mathlib.Omega.{arith}
use Rattle.laws.proofs.Bools.{true_not_false}
use Rattle.laws.specs.Search.{first_below}

-- i is the first number below n of which the test says yes, or n where it says no of each.
pub record First (n : ℕ) (f : ℕ → Bool) (i : ℕ) : Type 0 where
  pub within : i ≤ n
  pub before : (j : ℕ) → j < i → f j ≡ false
  pub here : i < n → f i ≡ true

first_next : (n : ℕ) (f : ℕ → Bool) (i : ℕ) → f 0 ≡ false → First n (λ k. f (suc k)) i → First (suc n) f (suc i)
first_next n f i e h = record { within = omega arith; before = before; here = λ l. h.here (omega arith) }
  where
    before : (j : ℕ) → j < suc i → f j ≡ false
    before zero l = e
    before (suc j) l = h.before j (omega arith)

pub first_below_lem : (n : ℕ) (f : ℕ → Bool) → First n f (first_below n f)
unfolding first_below
first_below_lem zero f = record { within = zero-le; before = λ j l. absurd (omega arith); here = λ l. absurd (omega arith) }
first_below_lem (suc n) f = go (f 0) refl (first_below_lem n (λ k. f (suc k)))
  where
    go : (b : Bool) → f 0 ≡ b → First n (λ k. f (suc k)) (first_below n (λ k. f (suc k)))
        → First (suc n) f (cond b 0 (suc (first_below n (λ k. f (suc k)))))
    go true e h = record { within = zero-le; before = λ j l. absurd (omega arith); here = λ l. e }
    go false e h = first_next n f _ e h

first_le : {n : ℕ} {f : ℕ → Bool} {i j : ℕ} → First n f i → First n f j → i ≤ j
first_le {i = i} {j = j} h g = go (dec_le i j)
  where
    go : Dec (i ≤ j) → i ≤ j
    go (yes l) = l
    go (no l) = absurd (true_not_false (g.here (omega arith)) (h.before j (omega arith)))

pub first_is : {n : ℕ} {f : ℕ → Bool} {i : ℕ} → First n f i → i ≡ first_below n f
first_is {n} {f} h = le_antisymm (first_le h (first_below_lem n f)) (first_le (first_below_lem n f) h)
