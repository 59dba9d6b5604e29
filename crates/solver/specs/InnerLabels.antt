-- What labelling below a bound comes to, in every part.
-- Assumes nothing.
use Rattle.std.specs.Prelude.{List, ℕ, ◌≤◌, ◌<◌, Result, Ok, Err}
use Rattle.classes.specs.Parts.{part_count, top_of}
use Rattle.classes.specs.declared.Class.{Class}
use Rattle.meaning.specs.InnerLowered.{WantedBelow, RefusedBelow}
use Rattle.meaning.specs.Classes.{class_parts}
use Rattle.labels.specs.Labels.{listed}
use Rattle.rules.specs.declared.Head.{Head}
use Rattle.rules.specs.Table.{book_of}
use Rattle.solver.specs.InnerSteps.{book_in, values_in, labels_at, Usable}

-- The bound's labels are classes.
pub record Bounded (h : Head) (t : List ℕ) (b : List Class) : Type 0 where
  pub usable : Usable h t
  pub tops : (p : ℕ) → p < part_count → (i : ℕ) → i < h.items → labels_at p b i ≤ top_of p

-- In every part the labels are the wanted ones below the bound.
pub record WantedEverywhere (h : Head) (t : List ℕ) (before after : List Class) : Type 0 where
  pub wanted : (p : ℕ) → p < part_count → WantedBelow (values_in p) (book_in p h t) (labels_at p before) (labels_at p after)

pub data LabelSays (h : Head) (t : List ℕ) (before : List Class) : Result Unit ℕ → List Class → Type 0 where
  labelled : {after : List Class} → WantedEverywhere h t before after → LabelSays h t before (Ok tt) after
  unlabelled : {p : ℕ} {after : List Class} → RefusedBelow class_parts (book_of h t) (listed before) p → LabelSays h t before (Err p) after
