-- What one line does: it is refused, or it is a form line, an item, a rule or the end, and then every test of it was passed; and so line after
-- line. They rest on the definition of a step, answer by answer.
-- Assumes nothing.
use Rattle.std.specs.Prelude.{Some, None, Ok, Err}
use mathlib.Core.Path.{◌≡◌, refl}
use mathlib.Core.Bool.{Bool, true, false, cond, ◌&&◌}
use mathlib.Core.List.{List, [], ◌∷◌}
use Prim.Native.Nat.{ℕ, zero, suc, ◌+◌, ◌≤◌, ◌<◌}
use native.Mathlib.Omega.{arith}
use lib.Dec.{ltb, leb, eqb}
use lib.ListN.{length, drop}
use borrow.Author.Tests.{ltb-true, leb-true, eqb-true}
use Rattle.std.specs.Prelude.{Option, Some, None}
use Rattle.laws.proofs.Bools.{true_not_false, and_left, and_right}
use Rattle.refusals.specs.Sizes.{most_items, most_rules, most_left}
use Rattle.refusals.specs.declared.Fault.{Fault}
use Rattle.items.specs.Lookup.{Found, find_in}
use Rattle.keys.specs.Keys.{key_number, next_allowed}
use Rattle.keys.specs.declared.Key.{Key}
use Rattle.lines.specs.Lines.{line_at, line_len}
use Rattle.lines.specs.declared.Line.{Line}
use Rattle.lines.proofs.Told.{LineHere, line_here}
use Rattle.reader.specs.Names.{is_item, every_item, rising}
use Rattle.reader.specs.Lines.{State, Result, result_of, Turn, on, stop, refused_at, refuse, head_of, counted, item_name, is_absent, with_item, item_step, rule_kind, left_places, left_numbers, right_found, with_rule, all_found, rule_step, end_step, key_step, line_step, step}
use Rattle.reader.specs.Reading.{go_on, read_from}
use Rattle.reader.proofs.KeyRows.{next_form, NextRow, next_row, key_of_kind}
use Rattle.reader.proofs.LineFacts.{LineParts, line_parts, FormValue, ItemValue, EndValue, RuleValue, form_value, item_value, end_value, cap_value, floor_value, follow_value}

-- A line that is accepted, of each sort.
module _ (st : State) (l : List ℕ) (x : Line) where
  pub record FormRead : Type 0 where
    pub stands : LineHere l x
    pub here : LineParts l x
    pub keyed : x.key ≡ Key.Form
    pub first : st.counts.after ≡ 0
    pub value : FormValue (drop x.from l) x.value

  pub record ItemRead : Type 0 where
    pub stands : LineHere l x
    pub here : LineParts l x
    pub keyed : x.key ≡ Key.Item
    pub row : NextRow st.counts.after 1
    pub value : ItemValue (drop x.from l) x.value
    pub few : st.counts.items < most_items
    pub new : find_in st.names st.counts.items (item_name l x) ≡ Ok None

  pub record RuleRead : Type 0 where
    pub stands : LineHere l x
    pub here : LineParts l x
    pub keyed : x.key ≡ key_of_kind (rule_kind x.key)
    pub number : key_number x.key ≡ 2 + rule_kind x.key
    pub row : NextRow st.counts.after (2 + rule_kind x.key)
    pub value : RuleValue (rule_kind x.key) (drop x.from l) x.value
    pub few : st.counts.rules < most_rules
    pub short : x.value.names ≤ most_left
    pub found : every_item st.names st.counts.items x.value.names (drop x.from l) ≡ true
    pub right : is_item (right_found st l x) ≡ true
    pub rises : rising x.value.names (left_places (left_numbers st l x)) ≡ true

  pub record EndRead : Type 0 where
    pub stands : LineHere l x
    pub here : LineParts l x
    pub keyed : x.key ≡ Key.End
    pub row : NextRow st.counts.after 5
    pub value : EndValue (drop x.from l) x.value
    pub count : x.value.count ≡ st.counts.lines
    pub all : length l ≡ line_len x

abbrev pub form_next : State → State
form_next st = record { counts = counted st.counts Key.Form st.counts.items st.counts.rules; names = st.names; words = st.words }

-- P holds of the next state and of the bytes that were read, or Q of the result.
abbrev pub TurnSays : (State → ℕ → Type 0) → (Result → Type 0) → Turn → Type 0
TurnSays P Q (on st k) = P st k
TurnSays P Q (stop r) = Q r

-- What is to be shown of each sort of line.
pub record Cases (st : State) (l : List ℕ) (P : State → ℕ → Type 0) (Q : Result → Type 0) : Type 0 where
  pub refused : (f : Fault) (p : ℕ) → p ≤ st.counts.lines + 2 → Q (result_of st (refused_at f p))
  pub form : (x : Line) → FormRead st l x → P (form_next st) (line_len x)
  pub item : (x : Line) → ItemRead st l x → P (with_item st l x) (line_len x)
  pub rule : (x : Line) → RuleRead st l x → P (with_rule st l x) (line_len x)
  pub end : (x : Line) → EndRead st l x → Q (result_of st (Ok (head_of st.counts)))

absent_is : (x : Found) → is_absent x ≡ true → x ≡ Ok None
absent_is (Ok (Some i)) e = absurd (true_not_false e refl)
absent_is (Ok None) e = refl
absent_is (Err r) e = absurd (true_not_false e refl)

module _ (st : State) (l : List ℕ) (P : State → ℕ → Type 0) (Q : Result → Type 0) (cases : Cases st l P Q) (x : Line) (stands : LineHere l x) (here : LineParts l x) where
  item_turn : x.key ≡ Key.Item → NextRow st.counts.after 1 → ItemValue (drop x.from l) x.value → TurnSays P Q (item_step st l x)
  unfolding item_step
  item_turn key row value = few (ltb st.counts.items most_items) refl
    where
      new : st.counts.items < most_items → (b : Bool) → is_absent (find_in st.names st.counts.items (item_name l x)) ≡ b
          → TurnSays P Q (cond b (on (with_item st l x) (line_len x)) (refuse st Fault.NameTwice))
      new h true e = cases.item x (record { stands = stands; here = here; keyed = key; row = row; value = value; few = h; new = absent_is _ e })
      new h false e = cases.refused _ _ (omega arith)

      few : (b : Bool) → ltb st.counts.items most_items ≡ b
          → TurnSays P Q (cond b
          (cond (is_absent (find_in st.names st.counts.items (item_name l x))) (on (with_item st l x) (line_len x)) (refuse st Fault.NameTwice))
          (refuse st Fault.TooMany))
      few true e = new (ltb-true st.counts.items most_items e) (is_absent (find_in st.names st.counts.items (item_name l x))) refl
      few false e = cases.refused _ _ (omega arith)

  module _ (keyed : x.key ≡ key_of_kind (rule_kind x.key)) (number : key_number x.key ≡ 2 + rule_kind x.key)
      (row : NextRow st.counts.after (2 + rule_kind x.key)) (value : RuleValue (rule_kind x.key) (drop x.from l) x.value) where
    abbrev room : Bool
    room = ltb st.counts.rules most_rules && leb x.value.names most_left

    abbrev rises : Bool
    rises = rising x.value.names (left_places (left_numbers st l x))

    rises_turn : (a : room ≡ true) → all_found st l x ≡ true → (b : Bool) → rises ≡ b
        → TurnSays P Q (cond b (on (with_rule st l x) (line_len x)) (refuse st Fault.LeftOrder))
    unfolding all_found
    rises_turn a f true e =
        cases.rule x
        (record {
          stands = stands;
          here = here;
          keyed = keyed;
          number = number;
          row = row;
          value = value;
          few = ltb-true st.counts.rules most_rules (and_left _ _ a);
          short = leb-true x.value.names most_left (and_right (ltb st.counts.rules most_rules) _ a);
          found = and_left _ _ f;
          right = and_right (every_item st.names st.counts.items x.value.names (drop x.from l)) _ f;
          rises = e;
        })
    rises_turn a f false e = cases.refused _ _ (omega arith)

    found_turn : (a : room ≡ true) → (b : Bool) → all_found st l x ≡ b
        → TurnSays P Q (cond b (cond rises (on (with_rule st l x) (line_len x)) (refuse st Fault.LeftOrder)) (refuse st Fault.NoSuchItem))
    found_turn a true e = rises_turn a e rises refl
    found_turn a false e = cases.refused _ _ (omega arith)

    rule_turn : TurnSays P Q (rule_step st l x)
    unfolding rule_step
    rule_turn = few room refl
      where
        few : (b : Bool) → room ≡ b
            → TurnSays P Q (cond b
            (cond (all_found st l x) (cond rises (on (with_rule st l x) (line_len x)) (refuse st Fault.LeftOrder)) (refuse st Fault.NoSuchItem))
            (refuse st Fault.TooMany))
        few true e = found_turn e (all_found st l x) refl
        few false e = cases.refused _ _ (omega arith)

  end_turn : x.key ≡ Key.End → NextRow st.counts.after 5 → EndValue (drop x.from l) x.value → TurnSays P Q (end_step st l x)
  unfolding end_step
  end_turn key row value = count (eqb x.value.count st.counts.lines) refl
    where
      all : x.value.count ≡ st.counts.lines → (b : Bool) → eqb (length l) (line_len x) ≡ b
          → TurnSays P Q (cond b (stop (result_of st (Ok (head_of st.counts))))
          (stop (result_of st (refused_at Fault.EndCount (st.counts.lines + 2)))))
      all h true e =
          cases.end x
          (record { stands = stands; here = here; keyed = key; row = row; value = value; count = h; all = eqb-true (length l) (line_len x) e })
      all h false e = cases.refused _ _ (omega arith)

      count : (b : Bool) → eqb x.value.count st.counts.lines ≡ b
          → TurnSays P Q (cond b
          (cond (eqb (length l) (line_len x)) (stop (result_of st (Ok (head_of st.counts))))
          (stop (result_of st (refused_at Fault.EndCount (st.counts.lines + 2)))))
          (refuse st Fault.EndCount))
      count true e = all (eqb-true x.value.count st.counts.lines e) (eqb (length l) (line_len x)) refl
      count false e = cases.refused _ _ (omega arith)

  key_turn : (k : Key) → x.key ≡ k → next_allowed st.counts.after (key_number k) ≡ true → TurnSays P Q (key_step k st l x)
  key_turn Key.Form e f =
      cases.form x
      (record { stands = stands; here = here; keyed = e; first = next_form st.counts.after f; value = form_value (drop x.from l) x.value (rw e at here.value) })
  key_turn Key.Item e f = item_turn e (next_row st.counts.after 0 f) (item_value (drop x.from l) x.value (rw e at here.value))
  key_turn Key.Cap e f =
      rule_turn (rw e) (rw e) (rw e (next_row st.counts.after 1 f)) (rw e (cap_value (drop x.from l) x.value (rw e at here.value)))
  key_turn Key.Floor e f =
      rule_turn (rw e) (rw e) (rw e (next_row st.counts.after 2 f)) (rw e (floor_value (drop x.from l) x.value (rw e at here.value)))
  key_turn Key.Follow e f =
      rule_turn (rw e) (rw e) (rw e (next_row st.counts.after 3 f)) (rw e (follow_value (drop x.from l) x.value (rw e at here.value)))
  key_turn Key.End e f = end_turn e (next_row st.counts.after 4 f) (end_value (drop x.from l) x.value (rw e at here.value))

line_turn : (st : State) (l : List ℕ) (P : State → ℕ → Type 0) (Q : Result → Type 0) → Cases st l P Q → (y : Option Line) → line_at l ≡ y
    → TurnSays P Q (line_step st l y)
unfolding line_step
line_turn st l P Q cases None e = cases.refused _ _ (omega arith)
line_turn st l P Q cases (Some x) e = allowed (next_allowed st.counts.after (key_number x.key)) refl
  where
    allowed : (b : Bool) → next_allowed st.counts.after (key_number x.key) ≡ b
        → TurnSays P Q (cond b (key_step x.key st l x) (refuse st Fault.Order))
    allowed true f = key_turn st l P Q cases x (line_here l x e) (line_parts l x e) x.key refl f
    allowed false f = cases.refused _ _ (omega arith)

pub step_says : (st : State) (l : List ℕ) (P : State → ℕ → Type 0) (Q : Result → Type 0) → Cases st l P Q → TurnSays P Q (step st l)
unfolding step
step_says st [] P Q cases = cases.refused _ _ (omega arith)
step_says st (b ∷ l) P Q cases = line_turn st (b ∷ l) P Q cases (line_at (b ∷ l)) refl

-- Line after line: where P holds of a state and of the text that is still to be read, Q holds of the result.
pub read_says : (P : State → List ℕ → Type 0) (Q : Result → Type 0)
    → ((st : State) (l : List ℕ) → P st l → Cases st l (λ next k. P next (drop k l)) Q) → (f : ℕ) (st : State) (l : List ℕ) → P st l
    → Q (read_from f st l)
unfolding read_from
read_says P Q cases zero st l p = (cases st l p).refused _ _ (omega arith)
read_says P Q cases (suc f) st l p =
    go (step st l) (step_says st l (λ next k. P next (drop k l)) Q (cases st l p)) (λ next k. read_says P Q cases f next (drop k l))
  where
    go : (y : Turn) → TurnSays (λ next k. P next (drop k l)) Q y → ((next : State) (k : ℕ) → P next (drop k l) → Q (read_from f next (drop k l)))
        → Q (go_on (λ next k. read_from f next (drop k l)) y)
    go (on next k) says more = more next k says
    go (stop r) says more = says
