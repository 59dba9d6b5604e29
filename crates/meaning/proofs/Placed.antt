-- Labels that differ from others at one item alone.
-- Assumes nothing.
use mathlib.Core.Path.{◌≡◌, sym, ap, subst}
use Prim.Native.Nat.{ℕ, ◌<◌}
use native.Mathlib.Decide.{ℕ_discrete}
use Rattle.meaning.specs.InnerGreatest.{Placed}

-- What holds of the item's new value, and of every other item's old one, holds of all.
pub placed_cases : {A : Type 0} {n i : ℕ} {v : A} {f g : ℕ → A} (Q : ℕ → A → Type 0) → Placed n f i v g → Q i v → ((j : ℕ) → j < n → Q j (f j)) → (j : ℕ) → j < n → Q j (g j)
placed_cases {A} {n} {i} {v} {f} {g} Q x here other j s = pick (ℕ_discrete j i)
  where
    pick : Dec (j ≡ i) → Q j (g j)
    pick (yes e) = subst (λ k. Q k (g k)) (sym e) (subst (Q i) (sym x.here) here)
    pick (no ne) = subst (Q j) (sym (x.other j s ne)) (other j s)

-- The same, seen through a function.
pub placed_map : {A B : Type 0} {n i : ℕ} {v : A} {f g : ℕ → A} (h : A → B) → Placed n f i v g → Placed n (λ j. h (f j)) i (h v) (λ j. h (g j))
placed_map h x = record { here = ap h x.here; other = λ j s ne. ap h (x.other j s ne) }
