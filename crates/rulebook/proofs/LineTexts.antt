-- The bytes of a line that is accepted are the line that would be written of what it adds. They rest on the tokens' texts and on the names of the
-- items that are found.
-- Assumes nothing.
use mathlib.Core.Path.{◌≡◌, refl, sym, ap, ap₂, ◌∙◌, subst}
use mathlib.Core.Bool.{true}
use mathlib.Core.List.{List, [], ◌∷◌, ◌++◌, append_assoc}
use Prim.Native.Nat.{ℕ, zero, suc, ◌+◌, ◌<◌}
use native.Mathlib.Nat.{add-zero, zero-add, add_assoc}
use native.Mathlib.Omega.{arith}
use lib.ListN.{get_or, take, drop}
use lib.Seq.{take-add, drop-drop}
use borrow.Author.Tests.{lt-ltb, le-ltb}
use Rattle.std.specs.Prelude.{Some}
use Rattle.scans.specs.Ascii.{lf, plus, digit1, colon}
use Rattle.laws.proofs.Bools.{and_left, and_right}
use Rattle.items.specs.Table.{name_of}
use Rattle.items.specs.Lookup.{find_in}
use Rattle.rules.specs.Record.{left_item}
use Rattle.rules.specs.declared.Rule.{Rule}
use Rattle.rules.proofs.Meaning.{by_kind_lem}
use Rattle.scans.specs.Bytes.{byte_at, name_byte, run_len}
use Rattle.keys.specs.Keys.{key_text}
use Rattle.keys.specs.declared.Key.{Key}
use Rattle.tokens.specs.Tokens.{name_at, class_text}
use Rattle.tokens.proofs.Tokens.{count_is_text, class_is_text}
use Rattle.lines.specs.Lines.{line_len}
use Rattle.lines.specs.declared.Line.{Line}
use Rattle.reader.specs.Names.{first_name, is_item, item_number, every_item, numbers_of}
use Rattle.reader.specs.Lines.{State, item_name, rule_kind, rule_of}
use Rattle.writer.specs.Texts.{pieces, form_line, end_line, left_piece, left_text, right_text, rule_key, rule_line}
use Rattle.reader.proofs.LineFacts.{LeftNames}
use Rattle.rulebook.proofs.LineBytes.{name_run, take_byte, line_text}
use Rattle.reader.proofs.LineCases.{FormRead, ItemRead, RuleRead, EndRead}
use Rattle.items.proofs.Entries.{found_bytes}
use Rattle.reader.proofs.Numbers.{found_item, left_item_lem, right_name}
use Rattle.writer.proofs.Pieces.{pieces_one, pieces_first}

-- The item that bytes are looked up as has those bytes.
item_bytes : (t : List ℕ) (n : ℕ) (name : List ℕ) → is_item (find_in t n name) ≡ true → name_of t (item_number (find_in t n name)) ≡ name
item_bytes t n name e = found_bytes t n name (item_number (find_in t n name)) (found_item (find_in t n name) e)

-- The first of the left names that are looked up, and the others.
module _ (t : List ℕ) (n c : ℕ) (l : List ℕ) where
  every_first : every_item t n (suc c) l ≡ true → is_item (find_in t n (first_name l)) ≡ true
  unfolding every_item
  every_first e = and_left _ _ e

  numbers_first : get_or (numbers_of t n (suc c) l) 0 0 ≡ item_number (find_in t n (first_name l))
  unfolding numbers_of
  numbers_first = refl

  module _ (a : ℕ) (run : run_len name_byte l ≡ a) where
    every_rest : every_item t n (suc c) l ≡ true → every_item t n c (drop (a + 1) l) ≡ true
    unfolding every_item
    every_rest e = subst (λ (k : ℕ). every_item t n c (drop (k + 1) l) ≡ true) run (and_right (is_item (find_in t n (first_name l))) _ e)

    numbers_rest : (j : ℕ) → get_or (numbers_of t n (suc c) l) (suc j) 0 ≡ get_or (numbers_of t n c (drop (a + 1) l)) j 0
    unfolding numbers_of
    numbers_rest j = ap (λ (k : ℕ). get_or (numbers_of t n c (drop (k + 1) l)) j 0) run

-- A left name with its sign.
module _ (t : List ℕ) (n : ℕ) (x : Rule) (k : ℕ) (l : List ℕ) (a : ℕ) (e : name_at l ≡ Some a)
    (found : is_item (find_in t n (first_name l)) ≡ true) (item : left_item x k ≡ item_number (find_in t n (first_name l))) where
  piece_name : name_of t (left_item x k) ≡ take a l
  piece_name = ap (name_of t) item ∙ item_bytes t n (first_name l) found ∙ ap (λ (j : ℕ). take j l) (name_run l a e)

  piece_last : byte_at (drop a l) ≡ colon → k + 1 ≡ x.count → take (a + 1) l ≡ left_piece t x k
  piece_last b h = take_byte a l colon b (omega arith) ∙ rw (piece_name, le-ltb (k + 1) x.count (omega arith))

  piece_plus : byte_at (drop a l) ≡ plus → k + 1 < x.count → take (a + 1) l ≡ left_piece t x k
  piece_plus b h = take_byte a l plus b (omega arith) ∙ rw (piece_name, lt-ltb (k + 1) x.count h)

-- The left names from number k on, with their signs.
left_pieces : (t : List ℕ) (n : ℕ) (x : Rule) (c k : ℕ) (l : List ℕ) (len : ℕ) → k + c ≡ x.count → LeftNames c l len → every_item t n c l ≡ true
    → byte_at (drop len l) ≡ colon → ((j : ℕ) → j < c → left_item x (k + j) ≡ get_or (numbers_of t n c l) j 0)
    → take (len + 1) l ≡ pieces (left_piece t x) k c
left_pieces t n x zero k l len count names found sign items = absurd names
left_pieces t n x (suc zero) k l len count names found sign items =
    piece_last t n x k l len names (every_first t n 0 l found) (ap (left_item x) (sym (add-zero k)) ∙ items 0 (omega arith) ∙ numbers_first t n 0 l) sign count
    ∙ sym (pieces_one (left_piece t x) k)
left_pieces t n x (suc (suc c)) k l len count names found sign items =
    ap (λ (j : ℕ). take j l) whole
    ∙ take-add (names.first + 1) (names.rest + 1) l
    ∙ ap₂ ◌++◌ here
    (left_pieces t n x (suc c) (suc k) (drop (names.first + 1) l) names.rest (omega arith) names.others
    (every_rest t n (suc c) l names.first run found) behind
    (λ j s. ap (left_item x) (next j) ∙ items (suc j) (omega arith) ∙ numbers_rest t n (suc c) l names.first run j))
    ∙ sym (pieces_first (left_piece t x) k (suc c))
  where
    whole : len + 1 ≡ names.first + 1 + (names.rest + 1)
    whole = omega (arith, names.size)

    run : run_len name_byte l ≡ names.first
    run = name_run l names.first names.name

    here : take (names.first + 1) l ≡ left_piece t x k
    here =
        piece_plus t n x k l names.first names.name (every_first t n (suc c) l found)
        (ap (left_item x) (sym (add-zero k)) ∙ items 0 (omega arith) ∙ numbers_first t n (suc c) l) names.plus (omega arith)

    behind : byte_at (drop names.rest (drop (names.first + 1) l)) ≡ colon
    behind = ap byte_at (drop-drop names.rest (names.first + 1) l ∙ ap (λ (j : ℕ). drop j l) (sym names.size)) ∙ sign

    next : (j : ℕ) → suc k + j ≡ k + suc j
    next j = omega arith

-- A line whose value has the bytes y.
value_text : (l : List ℕ) (x : Line) (k : Key) (y : List ℕ) → x.key ≡ k
    → take (line_len x) l ≡ key_text x.key ++ take x.value.len (drop x.from l) ++ (lf ∷ []) → take x.value.len (drop x.from l) ≡ y
    → take (line_len x) l ≡ key_text k ++ y ++ (lf ∷ [])
value_text l x k y e f g = f ∙ ap₂ (λ (j : Key) (z : List ℕ). key_text j ++ z ++ (lf ∷ [])) e g

module _ (st : State) (l : List ℕ) (x : Line) where
  abbrev value : List ℕ
  value = drop x.from l

  pub form_text : FormRead st l x → take (line_len x) l ≡ form_line
  form_text h = value_text l x Key.Form (digit1 ∷ []) h.keyed (line_text l x h.here) one
    where
      one : take x.value.len value ≡ digit1 ∷ []
      one = ap (λ (k : ℕ). take k value) h.value.size ∙ take_byte 0 value digit1 h.value.one (omega arith)

  pub item_text : ItemRead st l x → take (line_len x) l ≡ key_text Key.Item ++ item_name l x ++ (lf ∷ [])
  item_text h =
      value_text l x Key.Item (item_name l x) h.keyed (line_text l x h.here) (ap (λ (k : ℕ). take k value) h.value.size)

  pub end_text : EndRead st l x → take (line_len x) l ≡ end_line st.counts.lines
  end_text h =
      value_text l x Key.End _ h.keyed (line_text l x h.here) (count_is_text value _ h.value.count).text
      ∙ ap end_line h.count

  module _ (h : RuleRead st l x) where
    abbrev rule : Rule
    rule = rule_of st l x

    abbrev t : List ℕ
    t = st.names

    rule_left : take (x.value.left + 1) value ≡ left_text t rule
    rule_left =
        left_pieces t st.counts.items rule x.value.names 0 value x.value.left (zero-add x.value.names) h.value.left h.found
        h.value.colon (λ j s. ap (left_item rule) (zero-add j) ∙ left_item_lem st l x h j)

    -- What stands behind the colon.
    rule_parts : (k : ℕ) (y : List ℕ) → x.value.len ≡ x.value.left + 1 + k → take k (drop (x.value.left + 1) value) ≡ y
        → take x.value.len value ≡ left_text t rule ++ y
    rule_parts k y e f =
        ap (λ (j : ℕ). take j value) e ∙ take-add (x.value.left + 1) k value ∙ ap₂ ◌++◌ rule_left f

    class_parts : rule_kind x.key < 2 → take x.value.len value ≡ left_text t rule ++ class_text x.value.class
    class_parts z =
        let tail = h.value.classed z in
        rule_parts tail.width (class_text x.value.class) tail.size (class_is_text _ _ tail.class).text

    name_parts : rule_kind x.key ≡ 2 → take x.value.len value ≡ left_text t rule ++ name_of t rule.right
    name_parts z = rule_parts x.value.right (name_of t rule.right) (h.value.named z).size (sym named)
      where
        place : drop (x.from + x.value.left + 1) l ≡ drop (x.value.left + 1) value
        place = ap (λ (k : ℕ). drop k l) (add_assoc x.from x.value.left 1) ∙ sym (drop-drop (x.value.left + 1) x.from l)

        named : name_of t rule.right ≡ take x.value.right (drop (x.value.left + 1) value)
        named =
            ap (λ f. name_of t (item_number f)) (right_name st l x h z)
            ∙ item_bytes t st.counts.items _ (rw (right_name st l x h z) at h.right)
            ∙ ap (take x.value.right) place

    pub rule_text : take (line_len x) l ≡ rule_line t rule
    rule_text =
        value_text l x (rule_key rule) (left_text t rule ++ right_text t rule) h.keyed (line_text l x h.here) parts
        ∙ ap (λ (y : List ℕ). y ++ (lf ∷ [])) (sym (append_assoc (key_text (rule_key rule)) (left_text t rule) (right_text t rule)))
      where
        parts : take x.value.len value ≡ left_text t rule ++ right_text t rule
        parts =
            by_kind_lem (λ (y : List ℕ). take x.value.len value ≡ left_text t rule ++ y) (rule_kind x.key) h.value.known
            (λ z. class_parts (omega arith)) (λ z. class_parts (omega arith)) name_parts
