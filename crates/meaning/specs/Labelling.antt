-- Labellings of a book, the one that is wanted, and minimal ones (source 000, definition 2.2). Labels are a function from the item's number.
-- Assumes nothing.
use Rattle.std.specs.Prelude.{◌≡◌, ℕ, ◌<◌}
use Rattle.meaning.specs.Values.{Values, StrictlyBelow}
use Rattle.meaning.specs.Rules.{Book, Met}

-- Every item has a label, and every rule is met.
pub record Labelling (K : Values) (b : Book K.Val) (f : ℕ → K.Val) : Type 0 where
  pub labels : (i : ℕ) → i < b.items → K.Is (f i)
  pub meets : (r : ℕ) → r < b.rules → Met K (b.rule r) f

-- Item i is the first in book order at which the two differ.
pub record FirstDifference {A : Type 0} (n : ℕ) (f g : ℕ → A) (i : ℕ) : Type 0 where
  pub item : i < n
  pub before : (j : ℕ) → j < i → f j ≡ g j
  pub differs : f i ≡ g i → ⊥

-- It meets every rule. Take any other labelling that meets every rule, and the first item in book order at which the two differ: ours is
-- strictly below there.
pub record Wanted (K : Values) (b : Book K.Val) (f : ℕ → K.Val) : Type 0 where
  pub labelling : Labelling K b f
  pub least : (g : ℕ → K.Val) → Labelling K b g → (i : ℕ) → FirstDifference b.items f g i → StrictlyBelow K (f i) (g i)

-- Definition 2.2: it meets the rules, and any labelling that meets them and that it dominates is itself.
pub record Minimal (K : Values) (b : Book K.Val) (f : ℕ → K.Val) : Type 0 where
  pub labelling : Labelling K b f
  pub minimal : (g : ℕ → K.Val) → Labelling K b g → ((i : ℕ) → i < b.items → K.Below (g i) (f i)) → (i : ℕ) → i < b.items → f i ≡ g i
