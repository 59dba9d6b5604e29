-- The twelve small books of docs/RULES.md and what each is to give. P11 stands twice, with either floor.
-- Assumes nothing.
use Rattle.std.specs.Prelude.{◌≡◌, List, [], ◌∷◌, ℕ, length, get_or}
use Rattle.classes.specs.Class.{class_of, lowest}
use Rattle.classes.specs.declared.Class.{Class}
use Rattle.meaning.specs.Rules.{Left, Rule, cap, floor, follow, Book}
use Rattle.meaning.specs.Labelling.{Wanted}
use Rattle.meaning.specs.Parts.{Refused}
use Rattle.meaning.specs.Classes.{classes, class_parts}

-- What is to be said of a book: its labels in book order, or that it is refused with 9 at a part.
pub data Answer : Type 0 where
  labels : List Class → Answer
  refused : ℕ → Answer

pub record Example : Type 0 where
  pub book : Book Class
  pub answer : Answer

abbrev pub listed : List Class → ℕ → Class
listed l i = get_or l i lowest

-- The answer is right by the definitions: the labels are the wanted ones, or the part is the refused one.
abbrev pub Right : Book Class → Answer → Type 0
Right b (labels l) = (length l ≡ b.items) × Wanted classes b (listed l)
Right b (refused p) = Refused class_parts b p

-- a left side of one item, and of two
abbrev one : ℕ → Left
one i = record { count = 1; item = λ k. i }

abbrev two : ℕ → ℕ → Left
two i j = record { count = 2; item = λ k. get_or (i ∷ j ∷ []) k 0 }

-- so many items, and the rules in table order
abbrev book_of : ℕ → List (Rule Class) → Book Class
book_of n rs = record { items = n; rules = length rs; rule = λ r. get_or rs r (cap 0 lowest) }

abbrev given : ℕ → List (Rule Class) → Answer → Example
given n rs a = record { book = book_of n rs; answer = a }

-- level l with the marks m
abbrev c : ℕ → ℕ → Class
c l m = class_of l m

abbrev pub p1 : Example
p1 =
    given 3
    (cap 0 (c 3 0) ∷ floor (one 2) (c 2 4) ∷ floor (two 0 1) (c 5 1) ∷ follow (one 2) 1 ∷ follow (one 1) 2 ∷ [])
    (labels (c 0 0 ∷ c 5 5 ∷ c 5 5 ∷ []))

abbrev pub p2 : Example
p2 =
    given 3
    (floor (one 1) (c 2 4) ∷ floor (two 0 2) (c 5 1) ∷ follow (one 1) 0 ∷ follow (one 0) 1 ∷ [])
    (labels (c 2 4 ∷ c 2 4 ∷ c 5 1 ∷ []))

abbrev pub p3 : Example
p3 = given 2 (floor (two 0 1) (c 1 0) ∷ []) (labels (c 0 0 ∷ c 1 0 ∷ []))

abbrev pub p4 : Example
p4 = given 2 (floor (one 0) (c 1 0) ∷ floor (two 0 1) (c 2 0) ∷ []) (labels (c 1 0 ∷ c 2 0 ∷ []))

abbrev pub p5 : Example
p5 = given 1 (cap 0 (c 0 0) ∷ floor (one 0) (c 1 0) ∷ []) (refused 0)

abbrev pub p6 : Example
p6 = given 1 (cap 0 (c 15 0) ∷ floor (one 0) (c 0 8) ∷ []) (refused 4)

abbrev pub p7 : Example
p7 = given 2 (cap 0 (c 15 1) ∷ cap 1 (c 15 2) ∷ floor (two 0 1) (c 0 3) ∷ []) (labels (c 0 1 ∷ c 0 2 ∷ []))

abbrev pub p8 : Example
p8 = given 0 [] (labels [])

abbrev pub p9 : Example
p9 = given 2 (follow (two 0 1) 0 ∷ []) (labels (c 0 0 ∷ c 0 0 ∷ []))

abbrev pub p10 : Example
p10 =
    given 3
    (floor (one 2) (c 2 0) ∷ follow (one 0) 1 ∷ follow (one 1) 2 ∷ follow (one 2) 0 ∷ [])
    (labels (c 2 0 ∷ c 2 0 ∷ c 2 0 ∷ []))

abbrev pub p11_low : Example
p11_low = given 1 (cap 0 (c 3 3) ∷ cap 0 (c 5 1) ∷ floor (one 0) (c 3 1) ∷ []) (labels (c 3 1 ∷ []))

abbrev pub p11_high : Example
p11_high = given 1 (cap 0 (c 3 3) ∷ cap 0 (c 5 1) ∷ floor (one 0) (c 4 1) ∷ []) (refused 0)

abbrev pub p12 : Example
p12 = given 2 (cap 0 (c 1 0) ∷ floor (one 1) (c 2 0) ∷ follow (one 0) 1 ∷ []) (refused 0)

abbrev pub examples : List Example
examples = p1 ∷ p2 ∷ p3 ∷ p4 ∷ p5 ∷ p6 ∷ p7 ∷ p8 ∷ p9 ∷ p10 ∷ p11_low ∷ p11_high ∷ p12 ∷ []
