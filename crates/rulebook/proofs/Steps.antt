-- One line of a written book, read: what is filled after an item's line, after a rule's line and at the end line. They rest on the lines that
-- read back and on the names that are looked up.
-- Assumes nothing.
use Rattle.std.specs.Prelude.{Some, Ok}
use mathlib.Core.Path.{◌≡◌, refl, sym, ap, ap₂, ◌∙◌}
use mathlib.Core.Bool.{true}
use mathlib.Core.List.{List, [], ◌∷◌, ◌++◌, append_assoc}
use Prim.Native.Nat.{ℕ, zero, suc, ◌+◌, ◌*◌, ◌^◌, ◌≤◌, ◌<◌}
use native.Mathlib.Nat.{zero-add, add_assoc}
use native.Mathlib.Omega.{arith}
use lib.ListN.{length, get_or, take, drop}
use lib.Seq.{take_at, drop_at, drop-drop}
use borrow.Author.Tests.{lt-ltb, le-leb, eq-eqb}
use Rattle.scans.specs.Ascii.{lf}
use Rattle.classes.specs.Class.{class_of, lowest}
use Rattle.classes.specs.declared.Class.{Class}
use Rattle.items.specs.Names.{is_name}
use Rattle.items.specs.Table.{name_of, ItemsOk}
use Rattle.items.specs.Lookup.{find_in}
use Rattle.items.proofs.Lookup.{name_is_name}
use Rattle.rules.specs.Record.{left_item}
use Rattle.rules.specs.Table.{rule_words, word_at, rule_at, words_of}
use Rattle.rules.specs.declared.Rule.{Rule}
use Rattle.accepts.specs.Accepted.{RuleAccepted}
use Rattle.refusals.specs.Sizes.{most_items, most_rules, most_left}
use Rattle.keys.specs.Keys.{key_text}
use Rattle.keys.specs.declared.Key.{Key}
use Rattle.tokens.specs.Tokens.{count_text, class_text}
use Rattle.laws.proofs.Over.{over_length}
use Rattle.lines.specs.Lines.{line_len}
use Rattle.lines.specs.declared.Line.{Line}
use Rattle.reader.specs.Names.{every_item}
use Rattle.reader.specs.Lines.{State, result_of, on, stop, item_name, with_item, item_step, left_numbers, right_found, rule_of, with_rule, all_found, rule_step, end_step}
use Rattle.writer.specs.Texts.{pieces, item_line, left_text, right_text, rule_key, rule_line}
use Rattle.laws.proofs.Buffers.{SameFront, same_more}
use Rattle.rulebook.proofs.KindKeys.{kind_key}
use Rattle.rulebook.proofs.LineByLine.{LineRead}
use Rattle.rulebook.proofs.LinesRead.{line_with, unnamed_value, named_value, LeftRead, signed, left_reads, value_of_kind, kind_reads}
use Rattle.rulebook.proofs.Filling.{Holds, holds_more, next_absent, name_found}
use Rattle.rulebook.proofs.Looked.{numbered, numbered_at, every_item_lem, numbers_of_lem, place_same, places_rise, right_found_lem}

-- i items of t and r rules of w are read, and so are the form line and as many lines.
pub record Filled (t w : List ℕ) (i r : ℕ) (st : State) : Type 0 where
  pub lines : st.counts.lines ≡ 1 + i + r
  pub items : st.counts.items ≡ i
  pub rules : st.counts.rules ≡ r
  pub names : Holds t i st.names
  pub room : length st.words ≡ most_rules * rule_words
  pub words : SameFront (r * rule_words) st.words w

-- An item's line.
abbrev pub item_read : List ℕ → Line
item_read x = line_with Key.Item (named_value 1 (length x) 0 lowest (length x))

item_name_lem : (x rest : List ℕ) → item_name (key_text Key.Item ++ x ++ lf ∷ [] ++ rest) (item_read x) ≡ x
item_name_lem x rest =
    ap (take (length x)) (append_assoc x (lf ∷ []) rest) ∙ take_at x (lf ∷ rest) (length x) refl

module _ {t w : List ℕ} {n : ℕ} (o : ItemsOk t n) {i r : ℕ} (h : i < n) {st : State} (f : Filled t w i r st) (rest : List ℕ) where
  pub item_step_lem : item_step st (item_line t i ++ rest) (item_read (name_of t i))
      ≡ on (with_item st (item_line t i ++ rest) (item_read (name_of t i))) (line_len (item_read (name_of t i)))
  unfolding item_step
  item_step_lem =
      rw (
        lt-ltb st.counts.items most_items (omega (arith, f.items, o.size)),
        item_name_lem (name_of t i) rest,
        f.items,
        next_absent o f.names h,
      )

  pub item_fills : Filled t w (suc i) r (with_item st (item_line t i ++ rest) (item_read (name_of t i)))
  item_fills = record {
    lines = omega (arith, f.lines);
    items = omega (arith, f.items);
    rules = f.rules;
    names = rw (item_name_lem (name_of t i) rest, f.items) (holds_more o f.names h);
    room = f.room;
    words = f.words;
  }

left_all : (name : ℕ → List ℕ) (c : ℕ) → 1 ≤ c → ((j : ℕ) → j < c → is_name (name j) ≡ true)
    → LeftRead (pieces (signed name c) 0 c) c
left_all name zero h ok = absurd (omega arith)
left_all name (suc d) h ok = left_reads name (suc d) ok d 0 (omega arith)

class_is : (c : Class) (l m : ℕ) → c.level ≡ l → c.marks ≡ m → c ≡ class_of l m
class_is c l m p q = ap₂ class_of p q

-- A rule's line, of a rule x that is accepted.
module _ {t : List ℕ} {n : ℕ} (o : ItemsOk t n) (x : Rule) (a : RuleAccepted n x) where
  item_inside : (k : ℕ) → k < x.count → left_item x k < n
  item_inside k h = (a.left.places k (omega (arith, a.left.few))).item h

  left_name : (k : ℕ) → k < x.count → is_name (name_of t (left_item x k)) ≡ true
  left_name k h = name_is_name o (left_item x k) (item_inside k h)

  right_inside : 2 ≤ x.kind → x.right < n
  right_inside h = a.right (omega (arith, a.kind))

  right_name : 2 ≤ x.kind → is_name (name_of t x.right) ≡ true
  right_name h = name_is_name o x.right (right_inside h)

  pub sides : LeftRead (left_text t x) x.count
  sides = left_all (λ k. name_of t (left_item x k)) x.count a.left.some left_name

  abbrev pub rule_read : Line
  rule_read = line_with (rule_key x) (value_of_kind sides x.class (name_of t x.right) x.kind)

  pub rule_line_lem : x.class.marks < 2 ^ 64 → LineRead (rule_line t x) rule_read
  rule_line_lem h =
      kind_reads sides x.class (name_of t x.right) x.kind (record { level = a.level; marks = h }) a.single
      (λ g. class_is x.class 0 0 (a.levelless (omega (arith, a.kind))) (a.markless (omega (arith, a.kind))))
      right_name

  module _ (rest : List ℕ) where
    after_key : drop (length (key_text (rule_key x))) (rule_line t x ++ rest) ≡ left_text t x ++ (right_text t x ++ lf ∷ rest)
    after_key =
        ap (drop (length (key_text (rule_key x))))
        (append_assoc (key_text (rule_key x) ++ left_text t x ++ right_text t x) (lf ∷ []) rest
        ∙ append_assoc (key_text (rule_key x) ++ left_text t x) (right_text t x) (lf ∷ rest)
        ∙ append_assoc (key_text (rule_key x)) (left_text t x) (right_text t x ++ lf ∷ rest))
        ∙ drop_at (key_text (rule_key x)) (left_text t x ++ (right_text t x ++ lf ∷ rest)) (length (key_text (rule_key x))) refl

    after_left : drop (length (key_text (rule_key x)) + sides.len + 1) (rule_line t x ++ rest) ≡ right_text t x ++ lf ∷ rest
    after_left =
        ap (λ (k : ℕ). drop k (rule_line t x ++ rest)) (add_assoc (length (key_text (rule_key x))) sides.len 1)
        ∙ sym (drop-drop (sides.len + 1) (length (key_text (rule_key x))) (rule_line t x ++ rest))
        ∙ rw after_key (drop_at (left_text t x) (right_text t x ++ lf ∷ rest) (sides.len + 1) sides.size)

    module _ {w : List ℕ} {r : ℕ} {st : State} (f : Filled t w n r st) where
      left_found : (j : ℕ) → j < x.count → find_in st.names n (name_of t (left_item x j)) ≡ Ok (Some (left_item x j))
      left_found j h = name_found o f.names (left_item x j) (item_inside j h)

      every_left : every_item st.names st.counts.items x.count (drop (length (key_text (rule_key x))) (rule_line t x ++ rest)) ≡ true
      every_left =
          rw (after_key, f.items)
          (every_item_lem st.names n (λ k. name_of t (left_item x k)) (left_item x) x.count left_name left_found x.count 0
          (right_text t x ++ lf ∷ rest) (zero-add x.count))

      left_numbers_lem : left_numbers st (rule_line t x ++ rest) rule_read ≡ numbered (left_item x) 0 x.count
      left_numbers_lem =
          rw (after_key, f.items)
          (numbers_of_lem st.names n (λ k. name_of t (left_item x k)) (left_item x) x.count left_name left_found x.count 0
          (right_text t x ++ lf ∷ rest) (zero-add x.count))

      right_item : right_found st (rule_line t x ++ rest) rule_read ≡ Ok (Some x.right)
      right_item =
          rw (after_left, f.items)
          (right_found_lem st.names n x.kind (class_text x.class) (name_of t x.right) rest x.right a.rightless
          (λ h. name_found o f.names x.right (right_inside h)) right_name)

      pub rule_step_lem : r < most_rules
          → rule_step st (rule_line t x ++ rest) rule_read ≡ on (with_rule st (rule_line t x ++ rest) rule_read) (line_len rule_read)
      unfolding rule_step all_found
      rule_step_lem h =
          rw (
            lt-ltb st.counts.rules most_rules (omega (arith, f.rules)),
            le-leb x.count most_left a.left.few,
            every_left,
            right_item,
            left_numbers_lem,
            places_rise a.left,
          )

      words_same : words_of (rule_of st (rule_line t x ++ rest) rule_read) ≡ words_of x
      words_same =
          rw (
            (kind_key x.kind a.kind).kind,
            left_numbers_lem,
            place_same a.left 0 (omega arith),
            place_same a.left 1 (omega arith),
            place_same a.left 2 (omega arith),
            place_same a.left 3 (omega arith),
            place_same a.left 4 (omega arith),
            place_same a.left 5 (omega arith),
            place_same a.left 6 (omega arith),
            place_same a.left 7 (omega arith),
            right_item,
          )

      -- The rule is the next one of w.
      pub rule_fills : r < most_rules → ((k : ℕ) → k < rule_words → get_or (words_of x) k 0 ≡ get_or w (r * rule_words + k) 0)
          → Filled t w n (suc r) (with_rule st (rule_line t x ++ rest) rule_read)
      rule_fills h g = record {
        lines = omega (arith, f.lines);
        items = f.items;
        rules = omega (arith, f.rules);
        names = f.names;
        room =
            rw (words_same, f.rules)
            (over_length st.words (r * rule_words) (words_of x) (omega (arith, f.room)) ∙ f.room);
        words =
            rw (words_same, f.rules)
            (record { same = λ k l. (same_more (words_of x) f.words (omega (arith, f.room)) g).same k (omega arith) });
      }

-- The words of a table's rule are its words in the table.
words_numbered : (w : List ℕ) (r : ℕ) → words_of (rule_at w r) ≡ numbered (λ k. get_or w (r * rule_words + k) 0) 0 rule_words
unfolding rule_at word_at pieces
words_numbered w r = refl

pub record_words : (w : List ℕ) (r k : ℕ) → k < rule_words → get_or (words_of (rule_at w r)) k 0 ≡ get_or w (r * rule_words + k) 0
record_words w r k h =
    ap (λ (l : List ℕ). get_or l k 0) (words_numbered w r) ∙ numbered_at (λ j. get_or w (r * rule_words + j) 0) rule_words 0 k h
    ∙ ap (λ (j : ℕ). get_or w (r * rule_words + j) 0) (zero-add k)

-- The end line, behind which nothing stands.
abbrev pub end_read : ℕ → Line
end_read c = line_with Key.End (unnamed_value c (length (count_text c)))

pub end_step_lem : {t w : List ℕ} {n m : ℕ} {st : State} → Filled t w n m st → (l : List ℕ) → length l ≡ line_len (end_read (1 + n + m))
    → end_step st l (end_read (1 + n + m)) ≡ stop (result_of st (Ok (record { items = n; rules = m })))
unfolding end_step
end_step_lem {n = n} {m = m} {st = st} f l e =
    rw (
      eq-eqb (1 + n + m) st.counts.lines (sym f.lines),
      eq-eqb (length l) (line_len (end_read (1 + n + m))) e,
      f.items,
      f.rules,
    )
