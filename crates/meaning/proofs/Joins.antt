-- The join of the left labels grows with the labels, and looks at the left items alone.
-- Assumes nothing.
use mathlib.Core.Path.{◌≡◌, refl, ap₂}
use Prim.Native.Nat.{ℕ, zero, suc, ◌<◌}
use native.Mathlib.Omega.{arith}
use Rattle.meaning.specs.Values.{Values}
use Rattle.meaning.specs.Rules.{Left, LeftInside, join_up_to, join_over}
use Rattle.meaning.proofs.Lattice.{Lattice}

module _ (K : Values) (L : Lattice K) where
  joins_grow : (n : ℕ) (f g : ℕ → K.Val) → ((k : ℕ) → k < n → K.Below (f k) (g k)) → K.Below (join_up_to K n f) (join_up_to K n g)
  joins_grow zero f g h = L.reflexive K.lowest
  joins_grow (suc n) f g h =
      L.join_least _ _ _
      (L.transitive _ _ _ (joins_grow n f g (λ k l. h k (omega arith))) (L.join_left _ _))
      (L.transitive _ _ _ (h n (omega arith)) (L.join_right _ _))

  -- where the labels of the items below n grow, so does the join of a left side inside the book
  pub join_over_grows : {n : ℕ} {l : Left} {f g : ℕ → K.Val} → LeftInside n l → ((i : ℕ) → i < n → K.Below (f i) (g i)) → K.Below (join_over K l f) (join_over K l g)
  join_over_grows {n} {l} {f} {g} inside h = joins_grow l.count (λ k. f (l.item k)) (λ k. g (l.item k)) (λ k small. h (l.item k) (inside.within k small))

pub joins_same : (K : Values) (n : ℕ) (f g : ℕ → K.Val) → ((k : ℕ) → k < n → f k ≡ g k) → join_up_to K n f ≡ join_up_to K n g
joins_same K zero f g h = refl
joins_same K (suc n) f g h = ap₂ K.join (joins_same K n f g (λ k l. h k (omega arith))) (h n (omega arith))

-- equal labels of the items below n have equal joins
pub join_over_same : (K : Values) {n : ℕ} {l : Left} {f g : ℕ → K.Val} → LeftInside n l → ((i : ℕ) → i < n → f i ≡ g i) → join_over K l f ≡ join_over K l g
join_over_same K {n} {l} {f} {g} inside h = joins_same K l.count (λ k. f (l.item k)) (λ k. g (l.item k)) (λ k small. h (l.item k) (inside.within k small))
