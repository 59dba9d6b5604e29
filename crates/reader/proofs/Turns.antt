-- What one line gives, one law for each answer that the code can give. They rest on the laws of lines and of what is added to the tables.
-- Assumes nothing.
use mathlib.Core.Path.{◌≡◌, refl, sym, ap₂, ◌∙◌}
use mathlib.Core.Bool.{Bool, true, false, cond, ◌&&◌, not}
use mathlib.Core.List.{List, [], ◌∷◌}
use mathlib.Core.Logic.{inl, inr}
use Prim.Native.Nat.{ℕ, ◌+◌, ◌-◌, ◌≤◌, ◌<◌}
use native.Mathlib.Nat.{add_assoc}
use native.Mathlib.Omega.{arith}
use lib.Dec.{ltb, leb}
use lib.ListN.{length, take, drop, drop_of_length-le, length-drop}
use lib.Seq.{drop-drop, length-take-le}
use mir.Syntax.{w64}
use mir.Val.{Fits}
use types.Run.{OneOf}
use denote.Enum as enum
use borrow.Author.Tests.{eq-eqb, ne_eqb, ltb-true, not-true, not-false}
use Rattle.reader.specs.declared.line.Next.{Next}
use Rattle.refusals.specs.declared.Refusal.{Refusal}
use Rattle.refusals.specs.Said.{refusal_at}
use Rattle.std.specs.Prelude.{Option, Some, None, Ok, Err}
use Rattle.laws.proofs.Bools.{and_left}
use Rattle.refusals.specs.Sizes.{most_text, most_items, most_rules, most_left}
use Rattle.refusals.specs.declared.Fault.{Fault}
use Rattle.items.specs.Lookup.{find_in}
use Rattle.keys.specs.Keys.{key_number, next_allowed}
use Rattle.keys.specs.declared.Key.{Key}
use Rattle.keys.specs.contracts.Key as key
use Rattle.lines.specs.Lines.{line_at, line_len}
use Rattle.lines.specs.declared.Line.{Line}
use Rattle.lines.proofs.Told.{LineHere, line_here}
use Rattle.reader.specs.declared.line.Counts.{Counts}
use Rattle.reader.specs.Names.{rising}
use Rattle.reader.specs.Lines.{State, Turn, on, refuse, head_of, counted, item_name, is_absent, with_item, item_step, rule_kind, left_places, left_numbers, with_rule, all_found, rule_step, end_step, key_step, line_step, step}
use Rattle.reader.specs.InnerAdding.{NameReady, item_added, ItemAdded, NamesReady, RuleAdded, Added}
use Rattle.reader.specs.InnerLines.{state_of, turn_of, Ready, LineReady, Counting, ItemReady, RuleReady, went_on, ItemStepped, RuleStepped, EndStepped, Stepped}

-- A key's number is at most 5.
pub key_few : (k : Key) → key_number k ≤ 5
key_few Key.Form = omega arith
key_few Key.Item = omega arith
key_few Key.Cap = omega arith
key_few Key.Floor = omega arith
key_few Key.Follow = omega arith
key_few Key.End = omega arith

pub row_fits : (k : Key) {n : ℕ} → n ≡ key_number k → Fits w64 (n + 1)
row_fits k e = record { fits = omega (arith, e, key_few k) }

-- What the line that stands at a place says of places in the text.
pub record Place (text : List ℕ) (at : ℕ) (x : Line) : Type 0 where
  pub line : LineHere (drop at text) x
  pub end : at + line_len x ≤ length text
  pub short : line_len x ≤ most_text

pub place_of : {text : List ℕ} {at : ℕ} {x : Line} {c : Counts} → LineReady text at x c → Place text at x
place_of {text} {at} {x} r =
    let h = line_here (drop at text) x r.here in
    record {
      line = h;
      end = omega (arith, h.some, h.within, length-drop at text);
      short = omega (arith, h.within, length-drop at text, r.text);
    }

pub line_short : {text : List ℕ} {at : ℕ} {x : Line} {c : Counts} → LineReady text at x c → line_len x ≤ most_text
line_short r = (place_of r).short

pub line_counts : {text : List ℕ} {at : ℕ} {x : Line} {c : Counts} → LineReady text at x c → Counting c x
line_counts r = record { lines = r.lines; short = (place_of r).short }

pub line_inside : {text : List ℕ} {at : ℕ} {x : Line} {c : Counts} → LineReady text at x c → at ≤ length text
line_inside r = omega (arith, (place_of r).end)

-- The end line.
module _ (text : List ℕ) (at : ℕ) {x : Line} {c : Counts} where
  pub end_wrong : {r : Refusal} → r ≡ refusal_at Fault.EndCount (c.lines + 1) → (x.value.count ≡ c.lines → ⊥) → EndStepped c (drop at text) x (Err r)
  unfolding end_step
  end_wrong e f = record { turn = λ names words. rw (e, ne_eqb x.value.count c.lines f) }

  module _ (f : x.value.count ≡ c.lines) {k : ℕ} (g : k ≡ line_len x) where
    pub end_more : (length text - at ≡ k → ⊥) → {r : Refusal} → r ≡ refusal_at Fault.EndCount (c.lines + 2) → EndStepped c (drop at text) x (Err r)
    unfolding end_step
    end_more h e = record {
      turn = λ names words.
          rw (e, eq-eqb x.value.count c.lines f, length-drop at text, ← g, ne_eqb (length text - at) k h);
    }

    pub end_right : length text - at ≡ k → EndStepped c (drop at text) x (Ok (Next.End (head_of c)))
    unfolding end_step
    end_right h = record {
      turn = λ names words.
          rw (eq-eqb x.value.count c.lines f, length-drop at text, ← g, eq-eqb (length text - at) k h);
    }

-- A line that adds to a table: it moves on where its addition was made, and stops with the fault else.
abbrev turn_by : State → State → ℕ → Added → Turn
turn_by st next k (Ok _) = on next k
turn_by st next k (Err f) = refuse st f

turn_cond : (st next : State) (k : ℕ) (b : Bool) (x : Added) (f : Fault) → cond b (turn_by st next k x) (refuse st f) ≡ turn_by st next k (cond b x (Err f))
turn_cond st next k true x f = refl
turn_cond st next k false x f = refl

-- An item's line.
item_turn : (st : State) (l : List ℕ) (x : Line) → item_step st l x ≡ turn_by st (with_item st l x) (line_len x) (item_added st.names st.counts.items (item_name l x))
unfolding item_step
item_turn st l x =
    rw (turn_cond st (with_item st l x) (line_len x) (is_absent (find_in st.names st.counts.items (item_name l x))) (Ok tt) Fault.NameTwice)
    (turn_cond st (with_item st l x) (line_len x) (ltb st.counts.items most_items) _ Fault.TooMany)

module _ {text : List ℕ} {at : ℕ} {x : Line} {c : Counts} {names : List ℕ} (ready : ItemReady text at x c names) where
  place : Place text at x
  place = place_of ready.line

  pub item_from : Fits w64 (at + x.from)
  item_from = record { fits = omega (arith, place.end, place.line.left, ready.line.text) }

  pub item_end : Fits w64 (at + x.from + x.value.left)
  item_end = record { fits = omega (arith, place.end, place.line.left, ready.line.text) }

  pub item_within : at + x.from + x.value.left ≤ length text
  item_within = omega (arith, place.end, place.line.left)

  -- The part that is lent is the name.
  part : take (at + x.from + x.value.left - (at + x.from)) (drop (at + x.from) text) ≡ item_name (drop at text) x
  part =
      let same : at + x.from + x.value.left - (at + x.from) ≡ x.value.left = omega arith in
      rw (same, drop-drop x.from at text)

  name_length : length (item_name (drop at text) x) ≡ x.value.left
  name_length =
      length-take-le x.value.left (drop x.from (drop at text))
      (omega (arith, place.line.left, place.line.within, length-drop x.from (drop at text)))

  pub name_ready : NameReady (take (at + x.from + x.value.left - (at + x.from)) (drop (at + x.from) text)) names
  name_ready = record { short = rw (part, name_length) (place.line.name ready.item); room = ready.room }

  module _ {b : Added} {names' : List ℕ}
      (a : ItemAdded names c.items (take (at + x.from + x.value.left - (at + x.from)) (drop (at + x.from) text)) b names') where
    told : {y : Added} → b ≡ y → item_added names c.items (item_name (drop at text) x) ≡ y
    told e = rw part at (sym a.told ∙ e)

    pub item_counted : b ≡ Ok tt → Fits w64 (c.items + 1)
    item_counted e = record { fits = omega (arith, few _ (ltb c.items most_items) refl (told e)) }
      where
        few : (y : Added) (d : Bool) → ltb c.items most_items ≡ d → cond d y (Err Fault.TooMany) ≡ Ok tt → c.items < most_items
        few y true h g = ltb-true c.items most_items h
        few y false h g = let never : ◌≡◌ {A = ℕ} 0 1 = cc in absurd (omega arith)

    pub item_took : b ≡ Ok tt → {r : Next} → r ≡ went_on c x (c.items + 1) c.rules → ItemStepped c names (drop at text) x (Ok r) names'
    item_took e f = record {
      turn = λ words.
          rw f
          (sym
          (item_turn (state_of c names words) (drop at text) x
          ∙ rw (told e)
          (ap₂ (λ (k : Key) (t : List ℕ). on (state_of (counted c k (c.items + 1) c.rules) t words) (line_len x)) (sym ready.item)
          (sym (rw (e, part) at a.table)))));
    }

    pub item_not : {f : Fault} → b ≡ Err f → {r : Refusal} → r ≡ refusal_at f (c.lines + 1) → ItemStepped c names (drop at text) x (Err r) names'
    item_not e f = record {
      turn = λ words. rw (f, rw e at a.table) (sym (item_turn (state_of c names words) (drop at text) x ∙ rw (told e)));
    }

-- A rule's line.
rule_turn : (st : State) (l : List ℕ) (x : Line)
    → rule_step st l x ≡ turn_by st (with_rule st l x) (line_len x)
    (cond (ltb st.counts.rules most_rules && leb x.value.names most_left)
    (cond (all_found st l x) (cond (rising x.value.names (left_places (left_numbers st l x))) (Ok tt) (Err Fault.LeftOrder)) (Err Fault.NoSuchItem))
    (Err Fault.TooMany))
unfolding rule_step
rule_turn st l x =
    rw (turn_cond st (with_rule st l x) (line_len x) (rising x.value.names (left_places (left_numbers st l x))) (Ok tt) Fault.LeftOrder)
    (rw (turn_cond st (with_rule st l x) (line_len x) (all_found st l x) _ Fault.NoSuchItem)
    (turn_cond st (with_rule st l x) (line_len x) (ltb st.counts.rules most_rules && leb x.value.names most_left) _ Fault.TooMany))

module _ {text : List ℕ} {at : ℕ} {x : Line} {c : Counts} {words : List ℕ} (ready : RuleReady text at x c words) where
  rule_place : Place text at x
  rule_place = place_of ready.line

  pub rule_from : Fits w64 (at + x.from)
  rule_from = record { fits = omega (arith, rule_place.end, rule_place.line.left, ready.line.text) }

  pub names_ready : NamesReady text (at + x.from) x.value words
  names_ready = record {
    text = ready.line.text;
    within = omega (arith, rule_place.end, rule_place.line.left);
    room = ready.room;
  }

  front : drop x.from (drop at text) ≡ drop (at + x.from) text
  front = drop-drop x.from at text

  behind : drop (x.from + x.value.left + 1) (drop at text) ≡ drop (at + x.from + x.value.left + 1) text
  behind =
      drop-drop (x.from + x.value.left + 1) at text
      ∙ rw (← add_assoc at (x.from + x.value.left) 1, ← add_assoc at x.from x.value.left)

  module _ {names : List ℕ} {kind : ℕ} (same : kind ≡ rule_kind x.key) {b : Added} {words' : List ℕ}
      (a : RuleAdded names c.items text (at + x.from) kind x.value words c.rules b words') where
    taken : {y : Added} → b ≡ y
        → rule_step (state_of c names words) (drop at text) x ≡ turn_by (state_of c names words) (with_rule (state_of c names words) (drop at text) x) (line_len x) y
    unfolding all_found
    taken e = rule_turn (state_of c names words) (drop at text) x ∙ rw (front, behind, ← a.told, e)

    pub rule_counted : b ≡ Ok tt → Fits w64 (c.rules + 1)
    rule_counted e = record { fits = omega (arith, few _ (ltb c.rules most_rules && leb x.value.names most_left) refl (sym a.told ∙ e)) }
      where
        few : (y : Added) (d : Bool) → (ltb c.rules most_rules && leb x.value.names most_left) ≡ d → cond d y (Err Fault.TooMany) ≡ Ok tt
            → c.rules < most_rules
        few y true h g = ltb-true c.rules most_rules (and_left _ _ h)
        few y false h g = let never : ◌≡◌ {A = ℕ} 0 1 = cc in absurd (omega arith)

    pub rule_took : b ≡ Ok tt → {r : Next} → r ≡ went_on c x c.items (c.rules + 1)
        → RuleStepped c names words (drop at text) x (Ok r) words'
    rule_took e f = record { turn = rw (f, rw (e, same, ← front, ← behind) at a.table) (sym (taken e)) }

    pub rule_not : {f : Fault} → b ≡ Err f → {r : Refusal} → r ≡ refusal_at f (c.lines + 1) → RuleStepped c names words (drop at text) x (Err r) words'
    rule_not e f = record { turn = rw (f, rw e at a.table) (sym (taken e)) }

-- A key that is not form, item or end is a rule's.
rule_key : (k : Key) (st : State) (l : List ℕ) (x : Line) → OneOf (2 ∷ 3 ∷ 4 ∷ []) (enum.Declared.tag_of key.the_type k) → key_step k st l x ≡ rule_step st l x
rule_key Key.Cap st l x h = refl
rule_key Key.Floor st l x h = refl
rule_key Key.Follow st l x h = refl
rule_key Key.Form st l x (inl e) = absurd (omega arith)
rule_key Key.Form st l x (inr (inl e)) = absurd (omega arith)
rule_key Key.Form st l x (inr (inr e)) = absurd (omega arith)
rule_key Key.Item st l x (inl e) = absurd (omega arith)
rule_key Key.Item st l x (inr (inl e)) = absurd (omega arith)
rule_key Key.Item st l x (inr (inr e)) = absurd (omega arith)
rule_key Key.End st l x (inl e) = absurd (omega arith)
rule_key Key.End st l x (inr (inl e)) = absurd (omega arith)
rule_key Key.End st l x (inr (inr e)) = absurd (omega arith)

-- Any line: y is what is read at the place.
pub line_ready : {text : List ℕ} {at : ℕ} {x : Line} {c : Counts} {names words : List ℕ} {y : Option Line} → Ready text c names words → y ≡ line_at (drop at text)
    → y ≡ Some x → LineReady text at x c
line_ready r e f = record { text = r.text; lines = r.lines; here = sym e ∙ f }

pub form_counts : (text : List ℕ) (at : ℕ) {x : Line} {c : Counts} {names words : List ℕ} {y : Option Line} → y ≡ Some x → y ≡ line_at (drop at text)
    → Ready text c names words → Counting c x
form_counts text at f e r = line_counts (line_ready {at = at} r e f)

pub item_ready : {text : List ℕ} {at : ℕ} {x : Line} {c : Counts} {names words : List ℕ} {y : Option Line} → Ready text c names words → y ≡ line_at (drop at text)
    → y ≡ Some x → x.key ≡ Key.Item → ItemReady text at x c names
item_ready r e f g = record { line = line_ready r e f; item = g; room = r.names_room }

pub rule_ready : {text : List ℕ} {at : ℕ} {x : Line} {c : Counts} {names words : List ℕ} {y : Option Line} → Ready text c names words → y ≡ line_at (drop at text)
    → y ≡ Some x → RuleReady text at x c words
rule_ready r e f = record { line = line_ready r e f; room = r.words_room }

pub step_none : (text : List ℕ) (at : ℕ) (c : Counts) (names words : List ℕ) {r : Refusal} → length text ≤ at → r ≡ refusal_at Fault.EndCount (c.lines + 1)
    → turn_of (Err r) names words ≡ step (state_of c names words) (drop at text)
unfolding step
step_none text at c names words h e = rw (e, drop_of_length-le text {i = at} h)

line_step_lem : (st : State) (l : List ℕ) → 0 < length l → step st l ≡ line_step st l (line_at l)
unfolding step
line_step_lem st [] h = absurd (omega arith)
line_step_lem st (b ∷ l) h = refl

module _ (text : List ℕ) (at : ℕ) (c : Counts) (names words : List ℕ) (h : at < length text) {y : Option Line} (e : y ≡ line_at (drop at text)) where
  first : step (state_of c names words) (drop at text) ≡ line_step (state_of c names words) (drop at text) y
  first = line_step_lem (state_of c names words) (drop at text) (omega (arith, length-drop at text)) ∙ rw (← e)

  pub step_syntax : {r : Refusal} → y ≡ None → r ≡ refusal_at Fault.Syntax (c.lines + 1)
      → turn_of (Err r) names words ≡ step (state_of c names words) (drop at text)
  unfolding line_step
  step_syntax f g = rw g (sym (first ∙ rw f))

  module _ {x : Line} (f : y ≡ Some x) {q : ℕ} (g : q ≡ key_number x.key) {b : Bool} (i : b ≡ next_allowed c.after q) where
    table : next_allowed c.after (key_number x.key) ≡ b
    table = rw (← g) (sym i)

    pub step_order : {r : Refusal} → not b ≡ true → r ≡ refusal_at Fault.Order (c.lines + 1)
        → turn_of (Err r) names words ≡ step (state_of c names words) (drop at text)
    unfolding line_step
    step_order j k = rw k (sym (first ∙ rw (f, table, not-true b j)))

    module _ (j : not b ≡ false) where
      by_key : step (state_of c names words) (drop at text) ≡ key_step x.key (state_of c names words) (drop at text) x
      unfolding line_step
      by_key = first ∙ rw (f, table, not-false b j)

      pub step_form : x.key ≡ Key.Form → {r : Next} → r ≡ went_on c x c.items c.rules
          → turn_of (Ok r) names words ≡ step (state_of c names words) (drop at text)
      step_form z u = sym (by_key ∙ rw (z, u, z))

      pub step_item : x.key ≡ Key.Item → {r : Stepped} {names' : List ℕ} → ItemStepped c names (drop at text) x r names'
          → turn_of r names' words ≡ step (state_of c names words) (drop at text)
      step_item z s = s.turn words ∙ sym (by_key ∙ rw z)

      pub step_rule : OneOf (2 ∷ 3 ∷ 4 ∷ []) (enum.Declared.tag_of key.the_type x.key) → {r : Stepped} {words' : List ℕ}
          → RuleStepped c names words (drop at text) x r words' → turn_of r names words' ≡ step (state_of c names words) (drop at text)
      step_rule z s = s.turn ∙ sym (by_key ∙ rule_key x.key _ _ _ z)

      pub step_end : x.key ≡ Key.End → {r : Stepped} → EndStepped c (drop at text) x r
          → turn_of r names words ≡ step (state_of c names words) (drop at text)
      step_end z s = s.turn names words ∙ sym (by_key ∙ rw z)
