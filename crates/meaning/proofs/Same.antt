-- Equal labels of the book's items: what holds of one labelling holds of the other, whatever they have past the items.
-- Assumes nothing.
use mathlib.Core.Path.{◌≡◌, sym, ◌∙◌, subst}
use Prim.Native.Nat.{ℕ, ◌≤◌, ◌<◌}
use native.Mathlib.Omega.{arith}
use Rattle.meaning.specs.Values.{Values, StrictlyBelow}
use Rattle.meaning.specs.Rules.{Rule, cap, floor, follow, Book, RuleInside, Inside, join_over, Met}
use Rattle.meaning.specs.Labelling.{Labelling, FirstDifference, Wanted}
use Rattle.meaning.specs.InnerLowered.{AgreeBefore, Lowered}
use Rattle.meaning.proofs.Joins.{join_over_same}

-- A rule that is met is met by equal labels.
pub met_same : (K : Values) (n : ℕ) (r : Rule K.Val) → RuleInside n r → {f g : ℕ → K.Val} → ((i : ℕ) → i < n → f i ≡ g i) → Met K r f → Met K r g
met_same K n (cap i v) s h m = subst (λ x. K.Below x v) (h i s) m
met_same K n (floor l v) s h m = subst (λ x. K.Below v x) (join_over_same K s h) m
met_same K n (follow l i) s {f} {g} h m =
    subst (λ x. K.Below x (join_over K l g)) (h i s.1) (subst (λ x. K.Below (f i) x) (join_over_same K s.0 h) m)

-- A labelling, and a wanted one, is so by the labels of the book's items alone.
pub labelling_same : (K : Values) (b : Book K.Val) → Inside b → {f g : ℕ → K.Val} → ((i : ℕ) → i < b.items → f i ≡ g i) → Labelling K b f → Labelling K b g
labelling_same K b inside h x = record {
  labels = λ i s. subst K.Is (h i s) (x.labels i s);
  meets = λ r s. met_same K b.items (b.rule r) (inside.inside r s) h (x.meets r s);
}

pub wanted_same : (K : Values) (b : Book K.Val) → Inside b → {f g : ℕ → K.Val} → ((i : ℕ) → i < b.items → f i ≡ g i) → Wanted K b f → Wanted K b g
wanted_same K b inside {f} {g} h x = record {
  labelling = labelling_same K b inside h x.labelling;
  least = λ k y i d. subst (λ v. StrictlyBelow K v (k i)) (h i d.item) (x.least k y i (moved k i d));
}
  where
    moved : (k : ℕ → K.Val) (i : ℕ) → FirstDifference b.items g k i → FirstDifference b.items f k i
    moved k i d = record { item = d.item; before = λ j l. h j (omega (arith, d.item)) ∙ d.before j l; differs = λ e. d.differs (sym (h i d.item) ∙ e) }

-- So is how far labels are lowered.
pub lowered_same : (K : Values) (b : Book K.Val) → Inside b → {u f g : ℕ → K.Val} {i : ℕ} → i ≤ b.items → ((j : ℕ) → j < b.items → f j ≡ g j) → Lowered K b u i f → Lowered K b u i g
lowered_same K b inside {u} {f} {g} {i} small h x = record {
  below = record {
    labelling = labelling_same K b inside h x.below.labelling;
    under = λ j s. subst (λ v. K.Below v (u j)) (h j s) (x.below.under j s);
  };
  greatest = λ k y agree j s. subst (λ v. K.Below (k j) v) (h j s) (x.greatest k y (back i small agree) j s);
  least = λ j l k y agree. subst (λ v. K.Below v (k j)) (h j (omega arith)) (x.least j l k y (back j (omega arith) agree));
}
  where
    back : (j : ℕ) → j ≤ b.items → {k : ℕ → K.Val} → AgreeBefore j g k → AgreeBefore j f k
    back j s agree q l = h q (omega arith) ∙ agree q l
