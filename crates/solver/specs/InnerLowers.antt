-- What lowering does to labels: an attempt at an item, and the items in turn; and what is handed out at the end.
-- Assumes nothing.
use Rattle.std.specs.Prelude.{◌≡◌, Bool, true, false, List, ℕ, suc, ◌-◌, ◌<◌, min, max, set}
use Rattle.refusals.specs.Sizes.{most_items}
use Rattle.classes.specs.Bits.{bit}
use Rattle.classes.specs.Class.{top_level, class_of}
use Rattle.classes.specs.Parts.{part_count}
use Rattle.classes.specs.declared.Class.{Class}
use Rattle.meaning.specs.InnerLowered.{Lowered, NoneLess}
use Rattle.labels.specs.Labels.{listed}
use Rattle.rules.specs.declared.Head.{Head}
use Rattle.solver.specs.Solving.{Buffers, labels_of, RestKept}
use Rattle.solver.specs.InnerSteps.{book_in, values_in, labels_at, Usable}

-- Each bit of the marks is the old label's where w has it, and stays elsewhere; the level stays.
pub record ChosenOne (w : ℕ) (old before after : Class) : Type 0 where
  pub level : after.level ≡ before.level
  pub bits : (k : ℕ) → k < 64 → bit k after.marks ≡ max (min (bit k before.marks) (1 - bit k w)) (min (bit k old.marks) (bit k w))

-- The same of each label.
pub record Chosen (w : ℕ) (old before after : List Class) : Type 0 where
  pub each : (i : ℕ) → i < most_items → ChosenOne w (listed old i) (listed before i) (listed after i)

-- The labels with level v and no marks at item i.
abbrev pub placed_at : ℕ → ℕ → List Class → List Class
placed_at i v b = set b i (class_of v 0)

-- What lowering item i asks.
pub record ItemUsable (h : Head) (t : List ℕ) (i : ℕ) : Type 0 where
  pub usable : Usable h t
  pub item : i < h.items

-- In part p, labels lowered up to item i become labels lowered up to item k.
abbrev pub LowersPart : ℕ → Head → List ℕ → ℕ → ℕ → List Class → List Class → Type 0
LowersPart p h t i k before after =
    (u : ℕ → ℕ) → Lowered (values_in p) (book_in p h t) u i (labels_at p before) → Lowered (values_in p) (book_in p h t) u k (labels_at p after)

-- No labelling in the level that is below the labels has less than v at item i.
abbrev pub NoLevelLess : Head → List ℕ → List Class → ℕ → ℕ → Type 0
NoLevelLess h t b i v = NoneLess top_level (book_in 0 h t) (labels_at 0 b) i v

-- Level v at item i leaves a labelling, and item i is lowered in every part, to level v if nothing less does; or it leaves none, and the labels stay.
pub record TriesLevel (h : Head) (t : List ℕ) (i v : ℕ) (before after : List Class) (left : Bool) : Type 0 where
  pub marks : left ≡ true → (p : ℕ) → p < 64 → LowersPart (suc p) h t i (suc i) before after
  pub level : left ≡ true → NoLevelLess h t before i v → LowersPart 0 h t i (suc i) before after
  pub stays : left ≡ false → after ≡ before
  pub failed : left ≡ false → NoLevelLess h t before i (suc v)

-- In every part the labels are lowered up to item i, below the bound u.
pub record LoweredParts (h : Head) (t : List ℕ) (u : ℕ → ℕ → ℕ) (i : ℕ) (b : List Class) : Type 0 where
  pub each : (p : ℕ) → p < part_count → Lowered (values_in p) (book_in p h t) (u p) i (labels_at p b)

-- Labels that are lowered up to item i in every part become labels lowered up to item k.
pub record Lowers (h : Head) (t : List ℕ) (i k : ℕ) (before after : List Class) : Type 0 where
  pub lowered : (u : ℕ → ℕ → ℕ) → LoweredParts h t u i before → LoweredParts h t u k after

-- The first n labels stand at the front of two lent buffers; the rest of each is as it was.
pub record HandsOut (labels : List Class) (n : ℕ) (before after : Buffers) : Type 0 where
  pub label : (i : ℕ) → i < n → labels_of after i ≡ listed labels i
  pub levels : RestKept n before.levels after.levels
  pub marks : RestKept n before.marks after.marks
