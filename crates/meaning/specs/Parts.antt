-- Values that have parts, as a class has a level and marks: a book seen in one part alone, the part that is refused, and books that agree in a
-- part.
-- Assumes nothing.
use Rattle.std.specs.Prelude.{ℕ, ◌<◌}
use Rattle.meaning.specs.Values.{Values, numbers}
use Rattle.meaning.specs.Rules.{Book, map_book, SameBooks}
use Rattle.meaning.specs.Labelling.{Labelling}

-- How many parts there are, the greatest value of each, and what a value has in a part.
pub record Parts : Type 1 where
  pub values : Values
  pub count : ℕ
  pub top : ℕ → ℕ
  pub part : ℕ → values.Val → ℕ

module _ (P : Parts) where
  -- A book seen in one part alone compares only that part.
  abbrev pub in_part : ℕ → Book P.values.Val → Book ℕ
  in_part p b = map_book (P.part p) b

  -- The labels of a book seen in part p.
  abbrev pub part_values : ℕ → Values
  part_values p = numbers (P.top p)

  -- Part p is the lowest part in which no labelling meets all rules.
  pub record Refused (b : Book P.values.Val) (p : ℕ) : Type 0 where
    pub is_part : p < P.count
    pub unmet : (f : ℕ → ℕ) → Labelling (part_values p) (in_part p b) f → ⊥
    pub lower : (q : ℕ) → q < p → (f : ℕ → ℕ) × Labelling (part_values q) (in_part q b) f

-- Two books agree in part p: seen in that part alone, each in the parts of its own values, they are the same book.
pub record AgreeIn (P Q : Parts) (p : ℕ) (b : Book P.values.Val) (c : Book Q.values.Val) : Type 0 where
  pub seen : SameBooks (in_part P p b) (in_part Q p c)
