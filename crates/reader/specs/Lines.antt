-- Reading a rulebook line by line: what has been read so far, and what one line does to it. In one line the refusals come in the order 2, 3, 4,
-- 5, 6, 7, 8.
-- Assumes nothing.
use Rattle.std.specs.Prelude.{Bool, true, false, cond, ◌&&◌, List, [], ◌∷◌, ℕ, ◌+◌, ◌*◌, ltb, leb, eqb, length, take, drop, replicate, Option, Some, None, Ok, Err, Result as Answered}
use Rattle.laws.specs.Over.{over}
use Rattle.refusals.specs.Sizes.{most_items, most_rules, most_left}
use Rattle.refusals.specs.Said.{refusal_at}
use Rattle.refusals.specs.declared.Fault.{Fault}
use Rattle.refusals.specs.declared.Refusal.{Refusal}
use Rattle.items.specs.Names.{name_room}
use Rattle.items.specs.Lookup.{Found, find_in}
use Rattle.rules.specs.Table.{rule_words, words_of}
use Rattle.rules.specs.declared.Head.{Head}
use Rattle.rules.specs.declared.Rule.{Rule}
use Rattle.keys.specs.Keys.{key_number, next_allowed}
use Rattle.keys.specs.declared.Key.{Key}
use Rattle.lines.specs.Lines.{line_at, line_len}
use Rattle.lines.specs.declared.Line.{Line}
use Rattle.reader.specs.declared.line.Counts.{Counts}
use Rattle.reader.specs.Names.{is_item, item_number, every_item, numbers_of, rising}

-- What reading answers: the head of the book, or a refusal, with its line, or 0.
abbrev pub ReadBook : Type 0
ReadBook = Answered Head Refusal

-- What has been read: the counts of lines, items and rules with the row of the last key, and the two tables.
pub record State : Type 0 where
  pub counts : Counts
  pub names : List ℕ
  pub words : List ℕ

-- "Room in a name or a rule that isn't used .. holds zero; the reader writes it so": at the start both tables are all zero.
abbrev pub empty_names : List ℕ
empty_names = replicate (most_items * name_room) 0

abbrev pub empty_words : List ℕ
empty_words = replicate (most_rules * rule_words) 0

abbrev pub start : State
start = record { counts = record { lines = 0; after = 0; items = 0; rules = 0 }; names = empty_names; words = empty_words }

-- What a text gives: the answer, and the tables as they stood at the last line.
pub record Result : Type 0 where
  pub answer : ReadBook
  pub names : List ℕ
  pub words : List ℕ

abbrev pub result_of : State → ReadBook → Result
result_of st a = record { answer = a; names = st.names; words = st.words }

-- What a line gives: more to read, so many bytes further on, or the result.
pub data Turn : Type 0 where
  on : State → ℕ → Turn
  stop : Result → Turn

-- A fault at a place, and at the line that is read.
abbrev pub refused_at : Fault → ℕ → ReadBook
refused_at f p = Err (refusal_at f p)

abbrev pub refuse : State → Fault → Turn
refuse st f = stop (result_of st (refused_at f (st.counts.lines + 1)))

-- The counts after one more line, with the key k: there are now n items and m rules.
abbrev pub counted : Counts → Key → ℕ → ℕ → Counts
counted c k n m = record { lines = c.lines + 1; after = key_number k + 1; items = n; rules = m }

-- "item | NAME | the next item". "257th item" is 4; "the item name was given before" is 5.
abbrev pub item_name : List ℕ → Line → List ℕ
item_name l x = take x.value.left (drop x.from l)

abbrev pub is_absent : Found → Bool
is_absent (Ok (Some i)) = false
is_absent (Ok None) = true
is_absent (Err r) = false

abbrev pub with_item : State → List ℕ → Line → State
with_item st l x = record {
  counts = counted st.counts Key.Item (st.counts.items + 1) st.counts.rules;
  names = over st.names (st.counts.items * name_room) (item_name l x);
  words = st.words;
}

unfoldable pub item_step : State → List ℕ → Line → Turn
item_step st l x =
    cond (ltb st.counts.items most_items)
    (cond (is_absent (find_in st.names st.counts.items (item_name l x))) (on (with_item st l x) (line_len x)) (refuse st Fault.NameTwice))
    (refuse st Fault.TooMany)

-- A rule's kind by its key, and its eight left places.
abbrev pub rule_kind : Key → ℕ
rule_kind Key.Form = 0
rule_kind Key.Item = 0
rule_kind Key.Cap = 0
rule_kind Key.Floor = 1
rule_kind Key.Follow = 2
rule_kind Key.End = 0

abbrev pub left_places : List ℕ → List ℕ
left_places items = over (replicate most_left 0) 0 items

-- The left names of the line, and its right name, looked up. A line without a right name has item 0 there.
abbrev pub left_numbers : State → List ℕ → Line → List ℕ
left_numbers st l x = numbers_of st.names st.counts.items x.value.names (drop x.from l)

unfoldable pub right_item_at : List ℕ → ℕ → ℕ → List ℕ → Found
right_item_at t n len l = cond (eqb len 0) (Ok (Some 0)) (find_in t n (take len l))

abbrev pub right_found : State → List ℕ → Line → Found
right_found st l x = right_item_at st.names st.counts.items x.value.right (drop (x.from + x.value.left + 1) l)

abbrev pub rule_of : State → List ℕ → Line → Rule
rule_of st l x = record {
  kind = rule_kind x.key;
  count = x.value.names;
  left = left_places (left_numbers st l x);
  right = item_number (right_found st l x);
  class = x.value.class;
}

abbrev pub with_rule : State → List ℕ → Line → State
with_rule st l x = record {
  counts = counted st.counts x.key st.counts.items (st.counts.rules + 1);
  names = st.names;
  words = over st.words (st.counts.rules * rule_words) (words_of (rule_of st l x));
}

-- "1,025th rule, or a ninth left name" is 4. "every name of the line is looked up, the right one too, before LEFT_ORDER": 6, then 7.
unfoldable pub all_found : State → List ℕ → Line → Bool
all_found st l x = every_item st.names st.counts.items x.value.names (drop x.from l) && is_item (right_found st l x)

unfoldable pub rule_step : State → List ℕ → Line → Turn
rule_step st l x =
    cond (ltb st.counts.rules most_rules && leb x.value.names most_left)
    (cond (all_found st l x)
    (cond (rising x.value.names (left_places (left_numbers st l x))) (on (with_rule st l x) (line_len x)) (refuse st Fault.LeftOrder))
    (refuse st Fault.NoSuchItem))
    (refuse st Fault.TooMany)

-- The head of the book that was read.
abbrev pub head_of : Counts → Head
head_of c = record { items = c.items; rules = c.rules }

-- "end | COUNT | the number of lines before this one". "Text after the end line is END_COUNT at the line after it".
unfoldable pub end_step : State → List ℕ → Line → Turn
end_step st l x =
    cond (eqb x.value.count st.counts.lines)
    (cond (eqb (length l) (line_len x))
    (stop (result_of st (Ok (head_of st.counts))))
    (stop (result_of st (refused_at Fault.EndCount (st.counts.lines + 2)))))
    (refuse st Fault.EndCount)

abbrev pub form_step : State → Line → Turn
form_step st x = on (record { counts = counted st.counts Key.Form st.counts.items st.counts.rules; names = st.names; words = st.words }) (line_len x)

abbrev pub key_step : Key → State → List ℕ → Line → Turn
key_step Key.Form st l x = form_step st x
key_step Key.Item st l x = item_step st l x
key_step Key.Cap st l x = rule_step st l x
key_step Key.Floor st l x = rule_step st l x
key_step Key.Follow st l x = rule_step st l x
key_step Key.End st l x = end_step st l x

-- "the line has no LF, or is not one of the six forms" is 2; "the key table says no" is 3.
unfoldable pub line_step : State → List ℕ → Option Line → Turn
line_step st l None = refuse st Fault.Syntax
line_step st l (Some x) =
    cond (next_allowed st.counts.after (key_number x.key)) (key_step x.key st l x) (refuse st Fault.Order)

-- "A text with no end line is END_COUNT at the number of its lines plus one".
unfoldable pub step : State → List ℕ → Turn
step st [] = refuse st Fault.EndCount
step st (b ∷ l) = line_step st (b ∷ l) (line_at (b ∷ l))
