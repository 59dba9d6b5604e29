-- Searches among the numbers below a bound, by a test that computes.
-- Assumes nothing.
use mathlib.Core.Path.{◌≡◌, refl, sym, subst}
use mathlib.Core.Bool.{Bool, true, false, ◌&&◌}
use mathlib.Core.Option.{Option, none, some}
use mathlib.Core.Logic.{◌⊎◌, inl, inr}
use Prim.Native.Nat.{ℕ, zero, suc, ◌≤◌, ◌<◌}
use native.Mathlib.Nat.{not-suc-le-zero}
use native.Mathlib.Omega.{arith}
use borrow.Author.Count.{below_more}
use lib.Dec.{T}
use Rattle.laws.specs.Every.{every_below}
use Rattle.laws.proofs.Bools as bools
use Rattle.laws.proofs.Every as every

-- A test that computes says yes exactly if it is true.
is_true : (b : Bool) → T b → b ≡ true
is_true true t = refl
is_true false t = absurd t

true_is : {b : Bool} → b ≡ true → T b
true_is e = subst T (sym e) tt

pub and_left : (a b : Bool) → T (a && b) → T a
and_left a b t = true_is (bools.and_left a b (is_true (a && b) t))

pub and_right : (a b : Bool) → T (a && b) → T b
and_right a b t = true_is (bools.and_right a b (is_true (a && b) t))

pub every_at : (n : ℕ) (f : ℕ → Bool) → T (every_below n f) → (k : ℕ) → k < n → T (f k)
every_at n f t k l = true_is (every.every_at n f (is_true (every_below n f) t) k l)

pub every_all : (n : ℕ) (f : ℕ → Bool) → ((k : ℕ) → k < n → T (f k)) → T (every_below n f)
every_all n f h = true_is (every.every_all n f (λ k l. is_true (f k) (h k l)))

-- A statement of each number below n, and of n, is one of each number below n + 1.
pub below_suc : {P : ℕ → Type 0} {n : ℕ} → ((k : ℕ) → k < n → P k) → P n → (k : ℕ) → k < suc n → P k
below_suc {P} {n} h p k l = below_more P n h p k (omega arith)

-- A number below n of which the test says no, if there is one.
unfoldable pub failing : ℕ → (ℕ → Bool) → Option ℕ
failing zero f = none
failing (suc n) f = elim (f n) [ true ↦ failing n f | false ↦ some n ]

-- What `failing` tells.
abbrev pub Failing : ℕ → (ℕ → Bool) → Option ℕ → Type 0
Failing n f none = (k : ℕ) → k < n → T (f k)
Failing n f (some k) = (k < n) × (T (f k) → ⊥)

failing_step : (n : ℕ) (f : ℕ → Bool) (o : Option ℕ) → Failing n f o → T (f n) → Failing (suc n) f o
failing_step n f none h t = below_suc {P = λ k. T (f k)} h t
failing_step n f (some k) h t = (omega (arith, h.0), h.1)

pub failing_tells : (n : ℕ) (f : ℕ → Bool) → Failing n f (failing n f)
unfolding failing
failing_tells zero f = λ k l. absurd (not-suc-le-zero l)
failing_tells (suc n) f = go (failing_tells n f) (f n) (λ t. t) (λ t. t)
  where
    go : Failing n f (failing n f) → (b : Bool) → (T (f n) → T b) → (T b → T (f n)) → Failing (suc n) f (elim b [ true ↦ failing n f | false ↦ some n ])
    go below true from to = failing_step n f (failing n f) below (to tt)
    go below false from to = (omega arith, from)

-- v is the first number of which the test says yes.
pub record FirstYes (f : ℕ → Bool) (v : ℕ) : Type 0 where
  pub here : T (f v)
  pub before : (w : ℕ) → w < v → T (f w) → ⊥

found_below : (f : ℕ → Bool) (n : ℕ) → ((v : ℕ) × (v < n) × FirstYes f v) ⊎ ((w : ℕ) → w < n → T (f w) → ⊥)
found_below f zero = inr (λ w l. absurd (not-suc-le-zero l))
found_below f (suc n) = go (found_below f n) (f n) (λ t. t) (λ t. t)
  where
    Answer : Type 0
    Answer = ((v : ℕ) × (v < suc n) × FirstYes f v) ⊎ ((w : ℕ) → w < suc n → T (f w) → ⊥)

    go : ((v : ℕ) × (v < n) × FirstYes f v) ⊎ ((w : ℕ) → w < n → T (f w) → ⊥) → (b : Bool) → (T (f n) → T b) → (T b → T (f n)) → Answer
    go (inl (v, l, y)) b from to = inl (v, omega arith, y)
    go (inr none_below) true from to = inl (n, omega arith, record { here = to tt; before = none_below })
    go (inr none_below) false from to = inr (below_suc {P = λ k. T (f k) → ⊥} none_below from)

-- Where the test says yes of m, there is a first number of which it does.
pub first_yes : (f : ℕ → Bool) (m : ℕ) → T (f m) → (v : ℕ) × (v ≤ m) × FirstYes f v
first_yes f m t = go (found_below f (suc m))
  where
    go : ((v : ℕ) × (v < suc m) × FirstYes f v) ⊎ ((w : ℕ) → w < suc m → T (f w) → ⊥) → (v : ℕ) × (v ≤ m) × FirstYes f v
    go (inl (v, l, y)) = (v, omega arith, y)
    go (inr none_below) = absurd (none_below m (omega arith) t)
