-- The lines that are written read back: the form line, an item's line and the end line; the left side of a rule, name by name; and the lines of
-- the three kinds of rule. They rest on the tokens there and back.
-- Assumes nothing.
use mathlib.Core.Path.{◌≡◌, refl, sym, ap, ◌∙◌}
use mathlib.Core.Bool.{true, false, cond}
use mathlib.Core.List.{List, [], ◌∷◌, ◌++◌, append_assoc, append-nil}
use Prim.Native.Nat.{ℕ, zero, suc, ◌+◌, ◌^◌, ◌≤◌, ◌<◌}
use native.Mathlib.Numerals.{one-add}
use native.Mathlib.Omega.{arith}
use lib.Dec.{ltb}
use lib.ListN.{length, drop, length-append}
use lib.Seq.{drop_at, drop-drop}
use borrow.Author.Tests.{lt-ltb, le-ltb}
use Rattle.std.specs.Prelude.{Some}
use Rattle.scans.specs.Ascii.{lf, plus, digit1, colon}
use Rattle.classes.specs.Class.{lowest, IsClass}
use Rattle.classes.specs.declared.Class.{Class}
use Rattle.items.specs.Names.{is_name}
use Rattle.rules.specs.Record.{by_kind}
use Rattle.scans.specs.Bytes.{byte_at, name_byte, decimal_byte, hex_byte}
use Rattle.scans.proofs.Runs.{run_no}
use Rattle.keys.specs.Keys.{key_text}
use Rattle.keys.specs.declared.Key.{Key}
use Rattle.keys.proofs.KeyTexts.{key_reads}
use Rattle.tokens.specs.Numbers.{count_digits}
use Rattle.tokens.specs.Tokens.{name_at, count_text, class_text}
use Rattle.tokens.proofs.Tokens.{name_reads, count_reads, class_reads}
use Rattle.lines.specs.Left.{left_found, left_at}
use Rattle.lines.specs.Values.{named, form_at, with_class, with_right, value_at}
use Rattle.lines.specs.declared.value.Value.{Value}
use Rattle.lines.specs.declared.Line.{Line}
use Rattle.lines.proofs.Sides.{left_last, left_more}
use Rattle.writer.specs.Texts.{pieces, form_line, end_line}
use Rattle.rulebook.proofs.LineByLine.{LineRead}

-- The bytes that follow a token, LF, the plus sign and the colon, are no bytes of one.
pub feed_no_name : name_byte lf ≡ false
unfolding name_byte
feed_no_name = refl

pub plus_no_name : name_byte plus ≡ false
unfolding name_byte
plus_no_name = refl

pub colon_no_name : name_byte colon ≡ false
unfolding name_byte
colon_no_name = refl

feed_no_digit : decimal_byte lf ≡ false
unfolding decimal_byte
feed_no_digit = refl

feed_no_hex : hex_byte lf ≡ false
unfolding hex_byte
feed_no_hex = refl

-- A name reads back before any byte that no name has.
pub name_before : (x : List ℕ) (b : ℕ) (rest : List ℕ) → is_name x ≡ true → name_byte b ≡ false
    → name_at (x ++ b ∷ rest) ≡ Some (length x)
name_before x b rest e n = name_reads x (b ∷ rest) e (run_no name_byte b rest n)

-- A line of a key and a value's text, where the value reads back before LF.
abbrev pub line_with : Key → Value → Line
line_with k v = record { key = k; from = length (key_text k); value = v }

pub line_reads : (k : Key) (text : List ℕ) (v : Value) → ((rest : List ℕ) → value_at k (text ++ lf ∷ rest) ≡ Some v)
    → v.len ≡ length text → LineRead (key_text k ++ text ++ lf ∷ []) (line_with k v)
line_reads k text v e h = record {
  found = λ rest.
      let whole : key_text k ++ text ++ lf ∷ [] ++ rest ≡ key_text k ++ (text ++ lf ∷ rest) =
      append_assoc (key_text k ++ text) (lf ∷ []) rest ∙ append_assoc (key_text k) text (lf ∷ rest)
      in
      rw (
        whole,
        key_reads k (text ++ lf ∷ rest),
        drop_at (key_text k) (text ++ lf ∷ rest) (length (key_text k)) refl,
        e rest,
        ← drop-drop v.len (length (key_text k)) (key_text k ++ (text ++ lf ∷ rest)),
        drop_at (key_text k) (text ++ lf ∷ rest) (length (key_text k)) refl,
        drop_at text (lf ∷ rest) v.len (sym h),
      );
  size = omega (arith, h, length-append (key_text k ++ text) (lf ∷ []), length-append (key_text k) text);
}

-- A value without names, and one with names.
abbrev pub unnamed_value : ℕ → ℕ → Value
unnamed_value count n = record { names = 0; left = 0; right = 0; class = lowest; count = count; len = n }

abbrev pub named_value : ℕ → ℕ → ℕ → Class → ℕ → Value
named_value names n right c len = record { names = names; left = n; right = right; class = c; count = 0; len = len }

pub form_line_lem : LineRead form_line (line_with Key.Form (unnamed_value 0 1))
unfolding form_at
form_line_lem = line_reads Key.Form (digit1 ∷ []) (unnamed_value 0 1) (λ rest. refl) refl

pub item_line_lem : (x : List ℕ) → is_name x ≡ true
    → LineRead (key_text Key.Item ++ x ++ lf ∷ []) (line_with Key.Item (named_value 1 (length x) 0 lowest (length x)))
item_line_lem x e =
    line_reads Key.Item x (named_value 1 (length x) 0 lowest (length x)) (λ rest. rw (name_before x lf rest e feed_no_name)) refl

pub end_line_lem : (c : ℕ) → c < 10 ^ count_digits → LineRead (end_line c) (line_with Key.End (unnamed_value c (length (count_text c))))
end_line_lem c h =
    line_reads Key.End (count_text c) (unnamed_value c (length (count_text c)))
    (λ rest. rw (count_reads c (lf ∷ rest) h (run_no decimal_byte lf rest feed_no_digit)))
    refl

-- The left side of d names, with a colon behind it: it reads back whatever follows, and so does its name where it has only one.
pub record LeftRead (text : List ℕ) (d : ℕ) : Type 0 where
  pub len : ℕ
  pub size : length text ≡ len + 1
  pub found : (rest : List ℕ) → left_at (text ++ rest) ≡ left_found d len
  pub single : d ≡ 1 → (rest : List ℕ) → name_at (text ++ rest) ≡ Some len
  pub colon : (rest : List ℕ) → drop len (text ++ rest) ≡ colon ∷ rest

last_read : (x : List ℕ) → is_name x ≡ true → LeftRead (x ++ colon ∷ []) 1
last_read x e = record {
  len = length x;
  size = length-append x (colon ∷ []);
  found = λ rest.
      rw (append_assoc x (colon ∷ []) rest)
      (left_last (x ++ colon ∷ rest) (length x) (name_before x colon rest e colon_no_name)
      (λ p. absurd (let q : colon ≡ plus = sym (ap byte_at (drop_at x (colon ∷ rest) (length x) refl)) ∙ p in omega arith)));
  single = λ p rest. rw (append_assoc x (colon ∷ []) rest) (name_before x colon rest e colon_no_name);
  colon = λ rest. rw (append_assoc x (colon ∷ []) rest) (drop_at x (colon ∷ rest) (length x) refl);
}

more_read : (x text : List ℕ) (d : ℕ) → is_name x ≡ true → 1 ≤ d → LeftRead text d → LeftRead (x ++ plus ∷ [] ++ text) (suc d)
more_read x text d e some s = record {
  len = length x + 1 + s.len;
  size = omega (arith, length-append (x ++ plus ∷ []) text, length-append x (plus ∷ []), s.size);
  found = λ rest.
      rw (whole rest)
      (left_more (x ++ plus ∷ (text ++ rest)) (length x) (name_before x plus (text ++ rest) e plus_no_name)
      (ap byte_at (drop_at x (plus ∷ (text ++ rest)) (length x) refl))
      ∙ rw (next rest, s.found rest, one-add d));
  single = λ p rest. absurd (omega arith);
  colon = λ rest. rw (whole rest, ← drop-drop s.len (length x + 1) (x ++ plus ∷ (text ++ rest)), next rest) (s.colon rest);
}
  where
    whole : (rest : List ℕ) → x ++ plus ∷ [] ++ text ++ rest ≡ x ++ plus ∷ (text ++ rest)
    whole rest = append_assoc (x ++ plus ∷ []) text rest ∙ append_assoc x (plus ∷ []) (text ++ rest)

    next : (rest : List ℕ) → drop (length x + 1) (x ++ plus ∷ (text ++ rest)) ≡ text ++ rest
    next rest = sym (drop-drop 1 (length x) (x ++ plus ∷ (text ++ rest))) ∙ rw (drop_at x (plus ∷ (text ++ rest)) (length x) refl)

-- A name with the sign behind it, of c names.
abbrev pub signed : (ℕ → List ℕ) → ℕ → ℕ → List ℕ
signed name c k = name k ++ cond (ltb (k + 1) c) plus colon ∷ []

pub left_reads : (name : ℕ → List ℕ) (c : ℕ) → ((j : ℕ) → j < c → is_name (name j) ≡ true) → (d k : ℕ) → k + suc d ≡ c
    → LeftRead (pieces (signed name c) k (suc d)) (suc d)
unfolding pieces
left_reads name c ok zero k e =
    rw (append-nil (signed name c k), le-ltb (k + 1) c (omega arith)) (last_read (name k) (ok k (omega arith)))
left_reads name c ok (suc d) k e =
    rw (lt-ltb (k + 1) c (omega arith))
    (more_read (name k) (pieces (signed name c) (suc k) (suc d)) (suc d) (ok k (omega arith)) (omega arith)
    (left_reads name c ok d (suc k) (omega arith)))

-- The value of a rule: the class or the right name behind the left side.
module _ {text : List ℕ} {d : ℕ} (s : LeftRead text d) where
  next_colon : (rest : List ℕ) → byte_at (drop s.len (text ++ rest)) ≡ colon
  next_colon rest = ap byte_at (s.colon rest)

  behind_colon : (rest : List ℕ) → drop (s.len + 1) (text ++ rest) ≡ rest
  behind_colon rest = drop_at text rest (s.len + 1) s.size

  with_class_lem : (c : Class) (rest : List ℕ) → IsClass c
      → with_class d s.len (text ++ (class_text c ++ lf ∷ rest)) ≡ named d s.len 0 c (s.len + 1 + length (class_text c))
  unfolding with_class
  with_class_lem c rest h =
      rw (
        next_colon (class_text c ++ lf ∷ rest),
        behind_colon (class_text c ++ lf ∷ rest),
        class_reads c (lf ∷ rest) h (run_no hex_byte lf rest feed_no_hex),
      )

  with_right_lem : (x rest : List ℕ) → is_name x ≡ true
      → with_right d s.len (text ++ (x ++ lf ∷ rest)) ≡ named d s.len (length x) lowest (s.len + 1 + length x)
  unfolding with_right
  with_right_lem x rest e = rw (next_colon (x ++ lf ∷ rest), behind_colon (x ++ lf ∷ rest), name_before x lf rest e feed_no_name)

-- A line of a key, a left side and a right side.
two_sides : (k : Key) (left right : List ℕ) (v : Value) → ((rest : List ℕ) → value_at k (left ++ (right ++ lf ∷ rest)) ≡ Some v)
    → v.len ≡ length left + length right → LineRead (key_text k ++ left ++ right ++ lf ∷ []) (line_with k v)
two_sides k left right v e h =
    rw (append_assoc (key_text k) left right)
    (line_reads k (left ++ right) v (λ rest. rw (append_assoc left right (lf ∷ rest)) (e rest)) (omega (arith, h, length-append left right)))

-- The line of a rule by its kind: d left names, a class c, and the right name x.
module _ {text : List ℕ} {d : ℕ} (s : LeftRead text d) (c : Class) (x : List ℕ) where
  abbrev pub value_of_kind : ℕ → Value
  value_of_kind k = named_value d s.len (by_kind k 0 0 (length x)) c (s.len + 1 + length (by_kind k (class_text c) (class_text c) x))

  abbrev pub KindRead : ℕ → Type 0
  KindRead k =
      LineRead (key_text (by_kind k Key.Cap Key.Floor Key.Follow) ++ text ++ by_kind k (class_text c) (class_text c) x ++ lf ∷ [])
      (line_with (by_kind k Key.Cap Key.Floor Key.Follow) (value_of_kind k))

  pub kind_reads : (k : ℕ) → IsClass c → (k ≡ 0 → d ≡ 1) → (2 ≤ k → c ≡ lowest) → (2 ≤ k → is_name x ≡ true) → KindRead k
  kind_reads zero h one low ok =
      two_sides Key.Cap text (class_text c) (value_of_kind 0)
      (λ rest.
      rw (s.single (one refl) (class_text c ++ lf ∷ rest))
      (ap (λ (e : ℕ). with_class e s.len (text ++ (class_text c ++ lf ∷ rest))) (sym (one refl)) ∙ with_class_lem s c rest h))
      (omega (arith, s.size))
  kind_reads (suc zero) h one low ok =
      two_sides Key.Floor text (class_text c) (value_of_kind 1)
      (λ rest. rw (s.found (class_text c ++ lf ∷ rest)) (with_class_lem s c rest h))
      (omega (arith, s.size))
  kind_reads (suc (suc k)) h one low ok =
      two_sides Key.Follow text x (value_of_kind (suc (suc k)))
      (λ rest. rw (s.found (x ++ lf ∷ rest), low (omega arith)) (with_right_lem s x rest (ok (omega arith))))
      (omega (arith, s.size))
