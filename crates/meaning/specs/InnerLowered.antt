-- How far labels are lowered below a bound: what is true of them once the items before i have their final label, and at the end.
-- Assumes nothing.
use Rattle.std.specs.Prelude.{◌≡◌, ℕ, ◌≤◌, ◌<◌}
use Rattle.meaning.specs.Values.{Values, StrictlyBelow, numbers}
use Rattle.meaning.specs.Rules.{Book}
use Rattle.meaning.specs.Labelling.{Labelling, FirstDifference}
use Rattle.meaning.specs.Parts.{Parts, in_part, part_values}

-- The two agree on the items before i.
abbrev pub AgreeBefore : {A : Type 0} → ℕ → (ℕ → A) → (ℕ → A) → Type 0
AgreeBefore i f g = (j : ℕ) → j < i → f j ≡ g j

-- A labelling of the book that is below the bound u.
pub record LabellingBelow (K : Values) (b : Book K.Val) (u f : ℕ → K.Val) : Type 0 where
  pub labelling : Labelling K b f
  pub under : (i : ℕ) → i < b.items → K.Below (f i) (u i)

-- f is a labelling below the bound; one that agrees with f before item i is below f; and at each item before i, none that agrees with f before that
-- item has less there.
pub record Lowered (K : Values) (b : Book K.Val) (u : ℕ → K.Val) (i : ℕ) (f : ℕ → K.Val) : Type 0 where
  pub below : LabellingBelow K b u f
  pub greatest : (g : ℕ → K.Val) → LabellingBelow K b u g → AgreeBefore i f g → (j : ℕ) → j < b.items → K.Below (g j) (f j)
  pub least : (j : ℕ) → j < i → (g : ℕ → K.Val) → LabellingBelow K b u g → AgreeBefore j f g → K.Below (f j) (g j)

-- In one part, whose greatest value is top: no labelling of the book that is below f has less than v at item i.
pub record NoneLess (top : ℕ) (b : Book ℕ) (f : ℕ → ℕ) (i v : ℕ) : Type 0 where
  pub never : (h : ℕ → ℕ) → Labelling (numbers top) b h → ((j : ℕ) → j < b.items → h j ≤ f j) → h i < v → ⊥

-- The wanted one of the labellings below the bound: at the first item where another of them differs, it is strictly below.
pub record WantedBelow (K : Values) (b : Book K.Val) (u f : ℕ → K.Val) : Type 0 where
  pub below : LabellingBelow K b u f
  pub least : (g : ℕ → K.Val) → LabellingBelow K b u g → (i : ℕ) → FirstDifference b.items f g i → StrictlyBelow K (f i) (g i)

-- Part p is the lowest part in which no labelling below the bound u meets all rules.
pub record RefusedBelow (P : Parts) (b : Book P.values.Val) (u : ℕ → P.values.Val) (p : ℕ) : Type 0 where
  pub is_part : p < P.count
  pub unmet : (f : ℕ → ℕ) → LabellingBelow (part_values P p) (in_part P p b) (λ i. P.part p (u i)) f → ⊥
  pub lower : (q : ℕ) → q < p → (f : ℕ → ℕ) × LabellingBelow (part_values P q) (in_part P q b) (λ i. P.part q (u i)) f
