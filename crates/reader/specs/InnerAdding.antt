-- What the functions that add an item or a rule need and give: names looked up, whether it was added or why not, and the table then.
-- Assumes nothing.
use Rattle.std.specs.Prelude.{◌≡◌, cond, ◌&&◌, List, ℕ, ◌+◌, ◌*◌, ◌≤◌, ◌<◌, ltb, leb, length, drop, Ok, Err, ⊤, Result, Option, Some, is_some}
use Rattle.laws.specs.Over.{over}
use Rattle.refusals.specs.Sizes.{most_text, most_items, most_rules, most_left}
use Rattle.refusals.specs.declared.Fault.{Fault}
use Rattle.items.specs.Names.{name_room}
use Rattle.items.specs.Lookup.{Found, find_in}
use Rattle.rules.specs.Table.{rule_words, words_of}
use Rattle.rules.specs.declared.Rule.{Rule}
use Rattle.lines.specs.declared.value.Value.{Value}
use Rattle.reader.specs.Names.{is_item, item_number, every_item, numbers_of, rising}
use Rattle.reader.specs.Lines.{is_absent, left_places, right_item_at}

-- There is room for the items of the left names, and places in the text can be counted.
pub record LookReady (l : List ℕ) (at count : ℕ) : Type 0 where
  pub text : length l ≤ most_text
  pub place : at ≤ most_text
  pub few : count ≤ most_left

-- Looking up c left names in a table of n items: whether each is one, and then their items at the front of the left places.
pub record LooksUp (t : List ℕ) (n c : ℕ) (l : List ℕ) (r : Option (List ℕ)) : Type 0 where
  pub told : is_some r ≡ every_item t n c l
  pub items : (left : List ℕ) → r ≡ Some left → left ≡ left_places (numbers_of t n c l)

-- Whether an addition was made, or why not; and the table after it.
abbrev pub Added : Type 0
Added = Result ⊤ Fault

abbrev pub table_after : Added → List ℕ → List ℕ → List ℕ
table_after (Ok _) new old = new
table_after (Err f) new old = old

-- A name that fits its place, and the whole room of the item table.
pub record NameReady (name t : List ℕ) : Type 0 where
  pub short : length name ≤ name_room
  pub room : length t ≡ most_items * name_room

-- Whether a name can be added behind n items.
abbrev pub item_added : List ℕ → ℕ → List ℕ → Added
item_added t n name =
    cond (ltb n most_items) (cond (is_absent (find_in t n name)) (Ok tt) (Err Fault.NameTwice)) (Err Fault.TooMany)

pub record ItemAdded (t : List ℕ) (n : ℕ) (name : List ℕ) (b : Added) (t' : List ℕ) : Type 0 where
  pub told : b ≡ item_added t n name
  pub table : t' ≡ table_after b (over t (n * name_room) name) t

-- The names of a rule stand at a place of a text that is not too long, and the rule table has its whole room.
pub record NamesReady (l : List ℕ) (from : ℕ) (v : Value) (w : List ℕ) : Type 0 where
  pub text : length l ≤ most_text
  pub within : from + v.left < length l
  pub room : length w ≡ most_rules * rule_words

-- The rule whose names stand at a place: its left names, its right one, and whether it can be added behind r rules.
module _ (t : List ℕ) (n : ℕ) (l : List ℕ) (from : ℕ) (v : Value) where
  abbrev pub left_added : List ℕ
  left_added = left_places (numbers_of t n v.names (drop from l))

  abbrev pub right_added : Found
  right_added = right_item_at t n v.right (drop (from + v.left + 1) l)

  abbrev pub rule_added : ℕ → Added
  rule_added r =
      cond (ltb r most_rules && leb v.names most_left)
      (cond (every_item t n v.names (drop from l) && is_item right_added)
      (cond (rising v.names left_added) (Ok tt) (Err Fault.LeftOrder))
      (Err Fault.NoSuchItem))
      (Err Fault.TooMany)

  abbrev pub rule_made : ℕ → Rule
  rule_made kind = record { kind = kind; count = v.names; left = left_added; right = item_number right_added; class = v.class }

pub record RuleAdded (t : List ℕ) (n : ℕ) (l : List ℕ) (from kind : ℕ) (v : Value) (w : List ℕ) (r : ℕ) (b : Added) (w' : List ℕ) : Type 0 where
  pub told : b ≡ rule_added t n l from v r
  pub table : w' ≡ table_after b (over w (r * rule_words) (words_of (rule_made t n l from v kind))) w
