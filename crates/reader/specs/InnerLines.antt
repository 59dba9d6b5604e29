-- What the functions that read lines need and give: the state that counts and tables are, and the turn that an answer is.
-- Assumes nothing.
use Rattle.std.specs.Prelude.{◌≡◌, List, ℕ, ◌*◌, ◌≤◌, length, drop, Some, Ok, Result, Err}
use Rattle.refusals.specs.Sizes.{most_text, most_items, most_rules}
use Rattle.refusals.specs.declared.Refusal.{Refusal}
use Rattle.items.specs.Names.{name_room}
use Rattle.rules.specs.Table.{rule_words}
use Rattle.rules.specs.declared.Head.{Head}
use Rattle.keys.specs.declared.Key.{Key}
use Rattle.lines.specs.Lines.{line_at, line_len}
use Rattle.lines.specs.declared.Line.{Line}
use Rattle.reader.specs.declared.line.Counts.{Counts}
use Rattle.reader.specs.declared.line.Next.{Next}
use Rattle.reader.specs.Lines.{State, Turn, on, stop, empty_names, empty_words, counted, item_step, rule_step, end_step, ReadBook}
use Rattle.reader.specs.Reading.{read_text, fitted, items_after, rules_after}

abbrev pub state_of : Counts → List ℕ → List ℕ → State
state_of c names words = record { counts = c; names = names; words = words }

-- What a line gives, or the refusal at it.
abbrev pub Stepped : Type 0
Stepped = Result Next Refusal

abbrev pub turn_of : Stepped → List ℕ → List ℕ → Turn
turn_of (Ok (Next.Line c k)) names words = on (state_of c names words) k
turn_of (Ok (Next.End h)) names words = stop (record { answer = Ok h; names = names; words = words })
turn_of (Err r) names words = stop (record { answer = Err r; names = names; words = words })

-- The text is not too long, so that lines can be counted, and the tables have their whole room.
pub record Ready (l : List ℕ) (c : Counts) (names words : List ℕ) : Type 0 where
  pub text : length l ≤ most_text
  pub lines : c.lines ≤ most_text
  pub names_room : length names ≡ most_items * name_room
  pub words_room : length words ≡ most_rules * rule_words

-- The text begins a book: the tables are all zero.
pub record StartsEmpty (l names words : List ℕ) : Type 0 where
  pub text : length l ≤ most_text
  pub names_empty : names ≡ empty_names
  pub words_empty : words ≡ empty_words

-- The text gives the answer a, with these tables.
pub record Gives (l : List ℕ) (a : ReadBook) (names words : List ℕ) : Type 0 where
  pub result : read_text l ≡ record { answer = a; names = names; words = words }

-- The tables hold so many items and rules.
pub record Holds (h : Head) (names words : List ℕ) : Type 0 where
  pub items : h.items * name_room ≤ length names
  pub rules : h.rules * rule_words ≤ length words

-- A book's tables copied to lent ones, which held `items` and `rules`.
pub record CopiedOut (h : Head) (names words items rules : List ℕ) (r : ReadBook) (items' rules' : List ℕ) : Type 0 where
  pub answer : r ≡ fitted (length items) (length rules) (Ok h)
  pub items_are : items' ≡ items_after r names items
  pub rules_are : rules' ≡ rules_after r words rules

abbrev pub went_on : Counts → Line → ℕ → ℕ → Next
went_on c x n m = Next.Line (counted c x.key n m) (line_len x)

-- One line more can be counted, and the line's length.
pub record Counting (c : Counts) (x : Line) : Type 0 where
  pub lines : c.lines ≤ most_text
  pub short : line_len x ≤ most_text

-- The line stands at a place of a text that is not too long.
pub record LineReady (l : List ℕ) (at : ℕ) (x : Line) (c : Counts) : Type 0 where
  pub text : length l ≤ most_text
  pub lines : c.lines ≤ most_text
  pub here : line_at (drop at l) ≡ Some x

-- The same of an item's line, with the whole room of its table.
pub record ItemReady (l : List ℕ) (at : ℕ) (x : Line) (c : Counts) (names : List ℕ) : Type 0 where
  pub line : LineReady l at x c
  pub item : x.key ≡ Key.Item
  pub room : length names ≡ most_items * name_room

-- The same of a rule's line.
pub record RuleReady (l : List ℕ) (at : ℕ) (x : Line) (c : Counts) (words : List ℕ) : Type 0 where
  pub line : LineReady l at x c
  pub room : length words ≡ most_rules * rule_words

-- A rule's line and an item's line each leave the other table as it is, and the end line both.
pub record ItemStepped (c : Counts) (names l : List ℕ) (x : Line) (r : Stepped) (names' : List ℕ) : Type 0 where
  pub turn : (words : List ℕ) → turn_of r names' words ≡ item_step (state_of c names words) l x

pub record RuleStepped (c : Counts) (names words l : List ℕ) (x : Line) (r : Stepped) (words' : List ℕ) : Type 0 where
  pub turn : turn_of r names words' ≡ rule_step (state_of c names words) l x

pub record EndStepped (c : Counts) (l : List ℕ) (x : Line) (r : Stepped) : Type 0 where
  pub turn : (names words : List ℕ) → turn_of r names words ≡ end_step (state_of c names words) l x
