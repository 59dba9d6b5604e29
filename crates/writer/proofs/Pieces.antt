-- Pieces of a text one after the other, and a text that grows by them. They rest on the laws of a text that grows by puts.
-- Assumes nothing.
use mathlib.Core.Path.{◌≡◌, refl, sym, ap, ap₂, subst, ◌∙◌}
use mathlib.Core.List.{List, [], ◌++◌, append_assoc, append-nil}
use Prim.Native.Nat.{ℕ, zero, suc, ◌+◌, ◌-◌, ◌≤◌, ◌<◌}
use native.Mathlib.Nat.{zero-add, add-zero}
use native.Mathlib.Numerals.{add-one}
use native.Mathlib.Omega.{arith}
use Rattle.std.specs.Prelude.{Option, Some, None}
use Rattle.puts.specs.InnerGrowing.{Grown}
use Rattle.puts.proofs.Growing.{grown_grown, grown_stops}
use Rattle.writer.specs.Texts.{pieces}

-- Pieces, one more at the end.
pieces_snoc_from : (f : ℕ → List ℕ) (j k : ℕ) → pieces f j (suc k) ≡ pieces f j k ++ f (j + k)
unfolding pieces
pieces_snoc_from f j zero = append-nil (f j) ∙ ap f (omega arith)
pieces_snoc_from f j (suc k) =
    ap (λ (l : List ℕ). f j ++ l) (pieces_snoc_from f (suc j) k ∙ ap (λ (i : ℕ). pieces f (suc j) k ++ f i) (omega arith))
    ∙ sym (append_assoc (f j) (pieces f (suc j) k) (f (j + suc k)))

pub pieces_none : (f : ℕ → List ℕ) (j : ℕ) → pieces f j 0 ≡ []
unfolding pieces
pieces_none f j = refl

pub pieces_snoc : (f : ℕ → List ℕ) (k : ℕ) → pieces f 0 (k + 1) ≡ pieces f 0 k ++ f k
pieces_snoc f k = rw add-one (pieces_snoc_from f 0 k ∙ ap (λ (i : ℕ). pieces f 0 k ++ f i) (omega arith))

pub pieces_zero : (f : ℕ → List ℕ) (k c : ℕ) → c ≡ 0 → pieces f k c ≡ []
pieces_zero f k c e = ap (pieces f k) e ∙ pieces_none f k

pub pieces_one : (f : ℕ → List ℕ) (k : ℕ) → pieces f k 1 ≡ f k
unfolding pieces
pieces_one f k = append-nil (f k)

pub pieces_first : (f : ℕ → List ℕ) (k c : ℕ) → pieces f k (suc c) ≡ f k ++ pieces f (suc k) c
unfolding pieces
pieces_first f k c = refl

pieces_both : (f : ℕ → List ℕ) (j k c : ℕ) → pieces f j (k + c) ≡ pieces f j k ++ pieces f (j + k) c
unfolding pieces
pieces_both f j zero c = rw (zero-add, add-zero) refl
pieces_both f j (suc k) c =
    let one : suc k + c ≡ suc (k + c) = omega arith in
    let place : suc j + k ≡ j + suc k = omega arith in
    rw (one, ← place)
    (ap (λ (l : List ℕ). f j ++ l) (pieces_both f (suc j) k c) ∙ sym (append_assoc (f j) (pieces f (suc j) k) (pieces f (suc j + k) c)))

pub pieces_same : (f g : ℕ → List ℕ) (k c : ℕ) → ((j : ℕ) → j < k + c → f j ≡ g j) → pieces f k c ≡ pieces g k c
unfolding pieces
pieces_same f g k zero h = refl
pieces_same f g k (suc c) h = ap₂ ◌++◌ (h k (omega arith)) (pieces_same f g (suc k) c (λ j s. h j (omega arith)))

-- One piece more where the pieces before it are the same.
pub pieces_grown : (f g : ℕ → List ℕ) (c : ℕ) (y : List ℕ) → ((j : ℕ) → j < c → g j ≡ f j) → g c ≡ y → pieces g 0 (c + 1) ≡ pieces f 0 c ++ y
pieces_grown f g c y same here = pieces_snoc g c ∙ ap₂ ◌++◌ (pieces_same g f 0 c (λ j s. same j (omega arith))) here

pub pieces_split : (f : ℕ → List ℕ) (k c : ℕ) → k ≤ c → pieces f 0 c ≡ pieces f 0 k ++ pieces f k (c - k)
pieces_split f k c h =
    let all : c ≡ k + (c - k) = omega arith in
    ap (pieces f 0) all ∙ pieces_both f 0 k (c - k) ∙ ap (λ (i : ℕ). pieces f 0 k ++ pieces f i (c - k)) (zero-add k)

-- A text x that has grown by k pieces: by none, by one more, and where there is no room for the next of n.
module _ (f : ℕ → List ℕ) (x : List ℕ) {d : List ℕ} {at : ℕ} where
  pub pieces_start : {d' : List ℕ} {r : Option ℕ} → Grown d at x d' r → Grown d at (x ++ pieces f 0 0) d' r
  pieces_start g = rw (pieces_none, append-nil) g

  module _ {k : ℕ} {d₁ : List ℕ} {r₁ : ℕ} (g : Grown d at (x ++ pieces f 0 k) d₁ (Some r₁)) where
    pub pieces_next : {d₂ : List ℕ} {r₂ : Option ℕ} → Grown d₁ r₁ (f k) d₂ r₂ → Grown d at (x ++ pieces f 0 (k + 1)) d₂ r₂
    pieces_next {d₂} {r₂} h =
        subst (λ (l : List ℕ). Grown d at l d₂ r₂) (append_assoc x (pieces f 0 k) (f k) ∙ ap (λ (l : List ℕ). x ++ l) (sym (pieces_snoc f k))) (grown_grown g h)

    pub pieces_stop : {n : ℕ} → k < n → {d₂ : List ℕ} {r : Option ℕ} → r ≡ None → Grown d₁ r₁ (f k) d₂ None → Grown d at (x ++ pieces f 0 n) d₂ r
    pieces_stop {n} l {d₂} {r} none h =
        subst (λ (l : List ℕ). Grown d at l d₂ r)
        (append_assoc x (pieces f 0 (k + 1)) (pieces f (k + 1) (n - (k + 1))) ∙ ap (λ (l : List ℕ). x ++ l) (sym (pieces_split f (k + 1) n (omega arith))))
        (grown_stops (pieces f (k + 1) (n - (k + 1))) none (pieces_next h))

  pub pieces_done : {n k : ℕ} {d' : List ℕ} {r : Option ℕ} → Grown d at (x ++ pieces f 0 k) d' r → n ≤ k → k ≤ n → Grown d at (x ++ pieces f 0 n) d' r
  pieces_done {n} {k} {d'} {r} g h l = let same : k ≡ n = omega arith in subst (λ (j : ℕ). Grown d at (x ++ pieces f 0 j) d' r) same g
