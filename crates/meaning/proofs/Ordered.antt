-- Where labels that cover each other are equal, and equality is decided, there is at most one wanted labelling, and it is minimal by definition 2.2.
-- Assumes nothing.
use mathlib.Core.Path.{◌≡◌, sym}
use Prim.Native.Nat.{ℕ, zero, suc, ◌≤◌, ◌<◌}
use native.Mathlib.Nat.{not-suc-le-zero}
use native.Mathlib.Omega.{arith}
use Rattle.meaning.specs.Values.{Values}
use Rattle.meaning.specs.Rules.{Book}
use Rattle.meaning.specs.Labelling.{FirstDifference, Wanted, Minimal}
use Rattle.meaning.specs.InnerLowered.{AgreeBefore}
use Rattle.meaning.proofs.Search.{below_suc}

pub record Ordered (K : Values) : Type 0 where
  pub discrete : (x y : K.Val) → Dec (x ≡ y)
  pub antisymmetric : (x y : K.Val) → K.Is x → K.Is y → K.Below x y → K.Below y x → x ≡ y

-- Labels that cannot first differ are equal.
same_up_to : {A : Type 0} → ((x y : A) → Dec (x ≡ y)) → (n : ℕ) (f g : ℕ → A) → ((i : ℕ) → FirstDifference n f g i → ⊥) → (i : ℕ) → i ≤ n → AgreeBefore i f g
same_up_to d n f g never zero s j l = absurd (not-suc-le-zero l)
same_up_to d n f g never (suc i) s j l = go (same_up_to d n f g never i (omega arith)) (d (f i) (g i))
  where
    go : AgreeBefore i f g → Dec (f i ≡ g i) → f j ≡ g j
    go before (yes e) = below_suc {P = λ k. f k ≡ g k} before e j l
    go before (no ne) = absurd (never i (record { item = omega arith; before = before; differs = ne }))

pub never_differ : {A : Type 0} → ((x y : A) → Dec (x ≡ y)) → (n : ℕ) (f g : ℕ → A) → ((i : ℕ) → FirstDifference n f g i → ⊥) → (i : ℕ) → i < n → f i ≡ g i
never_differ d n f g never i s = same_up_to d n f g never n (omega arith) i s

-- the same item, seen from the other labelling
pub difference_sym : {A : Type 0} {n : ℕ} {f g : ℕ → A} {i : ℕ} → FirstDifference n f g i → FirstDifference n g f i
difference_sym d = record { item = d.item; before = λ j l. sym (d.before j l); differs = λ e. d.differs (sym e) }

module _ (K : Values) (O : Ordered K) (b : Book K.Val) where
  pub wanted_unique : {f g : ℕ → K.Val} → Wanted K b f → Wanted K b g → (i : ℕ) → i < b.items → f i ≡ g i
  wanted_unique {f} {g} x y =
      never_differ O.discrete b.items f g
      (λ i d. d.differs
      (O.antisymmetric _ _ (x.labelling.labels i d.item) (y.labelling.labels i d.item)
      (x.least g y.labelling i d).covered
      (y.least f x.labelling i (difference_sym d)).covered))

  pub wanted_minimal : {f : ℕ → K.Val} → Wanted K b f → Minimal K b f
  wanted_minimal {f} x = record {
    labelling = x.labelling;
    minimal = λ g y below.
        never_differ O.discrete b.items f g
        (λ i d. d.differs
        (O.antisymmetric _ _ (x.labelling.labels i d.item) (y.labels i d.item)
        (x.least g y i d).covered (below i d.item)));
  }
