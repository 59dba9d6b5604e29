-- Labels lent as two lists, levels and marks, for n items: the label of an item, that there are enough of them, and that a level is in range.
-- Assumes nothing.
use Rattle.std.specs.Prelude.{List, ℕ, ◌≤◌, length, get_or}
use Rattle.classes.specs.Class.{top_level, class_of, lowest}
use Rattle.classes.specs.declared.Class.{Class}

-- The labels that a list of levels and a list of marks hold; past the end of a list there is zero.
abbrev pub labels_in : List ℕ → List ℕ → ℕ → Class
labels_in levels marks i = class_of (get_or levels i 0) (get_or marks i 0)

-- The labels that a list of classes holds; past its end there is the lowest class.
abbrev pub listed : List Class → ℕ → Class
listed labels i = get_or labels i lowest

-- The level of item i is at most 15.
pub record LevelInRange (levels : List ℕ) (i : ℕ) : Type 0 where
  pub most : get_or levels i 0 ≤ top_level

-- The lent labels are not shorter than the n items.
pub record Room (n : ℕ) (levels marks : List ℕ) : Type 0 where
  pub for_levels : n ≤ length levels
  pub for_marks : n ≤ length marks
