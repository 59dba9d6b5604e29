-- The flat table, so many words a rule: its kind, its count of left names, eight left names, its right name, its level and its marks.
-- Assumes nothing.
use Rattle.std.specs.Prelude.{◌≡◌, Bool, cond, List, [], ◌∷◌, ℕ, ◌+◌, ◌*◌, leb, length, get_or}
use Rattle.laws.specs.Over.{over}
use Rattle.classes.specs.Class.{class_of}
use Rattle.classes.specs.declared.Class.{Class}
use Rattle.meaning.specs.Rules as meant
use Rattle.rules.specs.declared.Rule.{Rule}
use Rattle.rules.specs.declared.Head.{Head}
use Rattle.rules.specs.Record.{left_item, book_by}

-- how many words a rule takes
abbrev pub rule_words : ℕ
rule_words = 13

-- Word k of rule r; past the table's end it is zero.
unfoldable pub word_at : List ℕ → ℕ → ℕ → ℕ
word_at t r k = get_or t (r * rule_words + k) 0

-- The left names of rule r.
abbrev pub left_words : List ℕ → ℕ → List ℕ
left_words t r = word_at t r 2 ∷ word_at t r 3 ∷ word_at t r 4 ∷ word_at t r 5 ∷ word_at t r 6 ∷ word_at t r 7 ∷ word_at t r 8 ∷ word_at t r 9 ∷ []

-- Rule r as a record.
unfoldable pub rule_at : List ℕ → ℕ → Rule
rule_at t r = record { kind = word_at t r 0; count = word_at t r 1; left = left_words t r; right = word_at t r 10; class = class_of (word_at t r 11) (word_at t r 12) }

-- The book of a table under its head.
abbrev pub book_of : Head → List ℕ → meant.Book Class
book_of h t = book_by h (rule_at t)

-- The words of a rule, as they stand in a table.
abbrev pub words_of : Rule → List ℕ
words_of x =
    x.kind ∷ x.count
    ∷ left_item x 0 ∷ left_item x 1 ∷ left_item x 2 ∷ left_item x 3 ∷ left_item x 4 ∷ left_item x 5 ∷ left_item x 6 ∷ left_item x 7
    ∷ x.right ∷ x.class.level ∷ x.class.marks ∷ []

-- Putting the words x at a place of the table d: yes where there is room for all of them, and the table d' then has them there; else no, and it is as it was.
pub record WordsPut (x : List ℕ) (at : ℕ) (d : List ℕ) (b : Bool) (d' : List ℕ) : Type 0 where
  pub told : b ≡ leb (at + length x) (length d)
  pub table : d' ≡ cond b (over d at x) d

-- The same of a rule, put as rule r.
abbrev pub RulePut : Rule → ℕ → List ℕ → Bool → List ℕ → Type 0
RulePut x r d b d' = WordsPut (words_of x) (r * rule_words) d b d'
