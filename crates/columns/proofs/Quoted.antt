-- A name with its outer quotes off: the bytes between the quotes of a field are looked up as the field's name is. It rests on the machine of a
-- field, by induction over the bytes, and on that no name has a quote.
-- Assumes nothing.
use mathlib.Core.Path.{◌≡◌, refl, sym, ap, subst, ◌∙◌}
use mathlib.Core.Bool.{Bool, true, false, cond, ◌&&◌}
use mathlib.Core.List.{List, [], ◌∷◌}
use Prim.Native.Nat.{ℕ, zero, suc, ◌+◌, ◌-◌, ◌≤◌, ◌<◌}
use native.Mathlib.Decide.{ℕ_discrete}
use native.Mathlib.Omega.{arith}
use lib.Dec.{eqb, leb}
use lib.ListN.{length, get_or, take, drop}
use lib.Seq.{take-take, length-take-le}
use borrow.Author.Tests.{ne_eqb}
use Rattle.laws.specs.Tells.{Tells}
use Rattle.laws.proofs.Tells.{tells_no, tells_eqb}
use Rattle.items.specs.Names.{name_room, name_bytes, is_name}
use Rattle.scans.specs.Bytes.{name_byte}
use Rattle.items.specs.Lookup.{Found, said_found, find_in, FindSays}
use Rattle.items.proofs.Lookup.{find_told}
use Rattle.records.specs.Fields.{field_len, longer_by, after_cr, behind, Where, start, plain, quoted, closed, scan, field_at}
use Rattle.scans.specs.Ascii.{comma, quote, cr, lf}
use Rattle.records.specs.declared.Field.{Field}
use Rattle.records.proofs.Steps.{start_quote}
use Rattle.records.proofs.Within.{len_within}
use Rattle.exports.specs.Names.{undoubled, unquoted}
use Rattle.columns.specs.Inner.{IsField, Quoted}

-- Two texts that are looked up alike: they are equal, or neither is a name.
data Alike (x y : List ℕ) : Type 0 where
  equal : x ≡ y → Alike x y
  neither : name_bytes x ≡ false → name_bytes y ≡ false → Alike x y

and_false : (b : Bool) → (b && false) ≡ false
and_false true = refl
and_false false = refl

no_name : (x : List ℕ) → name_bytes x ≡ false → is_name x ≡ false
unfolding is_name
no_name x e = rw e (and_false (leb 1 (length x) && leb (length x) name_room))

alike_found : (t : List ℕ) (n : ℕ) {x y : List ℕ} → Alike x y → find_in t n x ≡ find_in t n y
unfolding find_in
alike_found t n (equal e) = ap (find_in t n) e
alike_found t n {x} {y} (neither e f) = rw (no_name x e, no_name y f)

-- No name has a quote.
quote_no_byte : name_byte quote ≡ false
unfolding name_byte
quote_no_byte = refl

first_quote : (x : List ℕ) → name_bytes (quote ∷ x) ≡ false
unfolding name_bytes
first_quote x = rw quote_no_byte

-- A byte more before both.
alike_more : (b : ℕ) {x y : List ℕ} → Alike x y → Alike (b ∷ x) (b ∷ y)
unfolding name_bytes
alike_more b (equal e) = equal (ap (λ (z : List ℕ). b ∷ z) e)
alike_more b (neither e f) = neither (rw e (and_false (name_byte b))) (rw f (and_false (name_byte b)))

-- Another byte than a quote stays as it is.
undoubled_other : (b : ℕ) (x : List ℕ) → (b ≡ quote → ⊥) → undoubled (b ∷ x) ≡ b ∷ undoubled x
unfolding undoubled
undoubled_other b [] h = rw (ne_eqb b quote h)
undoubled_other b (c ∷ x) h = rw (ne_eqb b quote h)

-- Of k bytes from a place between quotes on the last one is the closing quote, and the others are looked up as the name is.
record Between (l : List ℕ) (k : ℕ) : Type 0 where
  others : ℕ
  count : k ≡ suc others
  alike : Alike (take others l) (undoubled (take (suc others) l))

abbrev Inside : List ℕ → Field → Type 0
Inside l (Field.Comma k) = Between l k
Inside l (Field.Line k) = Between l k
Inside l (Field.End k) = Between l k
Inside l (Field.Cr k) = Between l k
Inside l Field.Open = Unit {0}
Inside l Field.Bad = Unit {0}

-- Another byte than a quote before them.
between_more : (b : ℕ) (l : List ℕ) (k : ℕ) → (b ≡ quote → ⊥) → Between l k → Between (b ∷ l) (1 + k)
between_more b l k h g = record {
  others = suc g.others;
  count = omega (arith, g.count);
  alike = rw (undoubled_other b (take (suc g.others) l) h) (alike_more b g.alike);
}

inside_more : (b : ℕ) (l : List ℕ) (f : Field) → (b ≡ quote → ⊥) → Inside l f → Inside (b ∷ l) (longer_by 1 f)
inside_more b l (Field.Comma k) h g = between_more b l k h g
inside_more b l (Field.Line k) h g = between_more b l k h g
inside_more b l (Field.End k) h g = between_more b l k h g
inside_more b l (Field.Cr k) h g = between_more b l k h g
inside_more b l Field.Open h g = tt
inside_more b l Field.Bad h g = tt

-- A doubled quote: neither is a name.
between_doubled : (l : List ℕ) (k : ℕ) → Between l k → Between (quote ∷ quote ∷ l) (1 + (1 + k))
unfolding undoubled
between_doubled l k g = record {
  others = suc (suc g.others);
  count = omega (arith, g.count);
  alike = neither (first_quote (quote ∷ take g.others l)) (first_quote (undoubled (take (suc g.others) l)));
}

inside_doubled : (l : List ℕ) (f : Field) → Inside l f → Inside (quote ∷ quote ∷ l) (longer_by 1 (longer_by 1 f))
inside_doubled l (Field.Comma k) g = between_doubled l k g
inside_doubled l (Field.Line k) g = between_doubled l k g
inside_doubled l (Field.End k) g = between_doubled l k g
inside_doubled l (Field.Cr k) g = between_doubled l k g
inside_doubled l Field.Open g = tt
inside_doubled l Field.Bad g = tt

-- The closing quote.
between_shut : (l : List ℕ) → Between (quote ∷ l) 1
unfolding undoubled
between_shut l = record { others = 0; count = omega arith; alike = equal refl }

-- What holds of both answers of a test holds of the one that is taken.
either : (P : Field → Type 0) (t : Bool) (f g : Field) → P f → P g → P (cond t f g)
either P true f g h i = h
either P false f g h i = i

-- A field that ends here has no more bytes.
abbrev Over : List ℕ → Field → Type 0
Over l f = Inside (quote ∷ l) (longer_by 1 f)

over_behind : (l : List ℕ) → Over l (behind l)
unfolding behind after_cr
over_behind [] = between_shut []
over_behind (b ∷ []) =
    either (Over (b ∷ [])) (eqb b comma) _ _ (between_shut (b ∷ [])) (either (Over (b ∷ [])) (eqb b cr) _ _ (between_shut (b ∷ [])) tt)
over_behind (b ∷ d ∷ l) =
    either (Over (b ∷ d ∷ l)) (eqb b comma) _ _ (between_shut (b ∷ d ∷ l))
    (either (Over (b ∷ d ∷ l)) (eqb b cr) _ _ (either (Over (b ∷ d ∷ l)) (eqb d lf) _ _ (between_shut (b ∷ d ∷ l)) tt) tt)

-- What holds of a quote and of every other byte holds of a byte.
by_quote : (P : ℕ → Field → Type 0) (b : ℕ) (f g : Field) → P quote f → ((b ≡ quote → ⊥) → P b g) → P b (cond (eqb b quote) f g)
by_quote P b f g h i = go (ℕ_discrete b quote)
  where
    go : Dec (b ≡ quote) → P b (cond (eqb b quote) f g)
    go (yes e) = subst (λ (d : ℕ). P d (cond (eqb d quote) f g)) (sym e) h
    go (no n) = rw (ne_eqb b quote n) (i n)

-- What the machine says of a text between quotes, and of one behind a quote.
abbrev Stands : Where → List ℕ → Field → Type 0
Stands start l f = Unit {0}
Stands plain l f = Unit {0}
Stands quoted l f = Inside l f
Stands closed l f = Over l f

scan_stands : (w : Where) (l : List ℕ) → Stands w l (scan w l)
unfolding scan
scan_stands quoted [] = tt
scan_stands start [] = tt
scan_stands plain [] = tt
scan_stands closed [] = over_behind []
scan_stands start (b ∷ l) = tt
scan_stands plain (b ∷ l) = tt
scan_stands quoted (b ∷ l) =
    by_quote (λ (d : ℕ) (f : Field). Inside (d ∷ l) f) b (longer_by 1 (scan closed l)) (longer_by 1 (scan quoted l)) (scan_stands closed l)
    (λ h. inside_more b l (scan quoted l) h (scan_stands quoted l))
scan_stands closed (b ∷ l) =
    by_quote (λ (d : ℕ) (f : Field). Over (d ∷ l) f) b (longer_by 1 (scan quoted l)) (behind (b ∷ l))
    (inside_doubled l (scan quoted l) (scan_stands quoted l)) (λ h. over_behind (b ∷ l))

-- The field of a quote and what follows it has at least two bytes, or none; its name is looked up as the bytes between its quotes.
record Named (t : List ℕ) (n : ℕ) (l : List ℕ) (len : ℕ) : Type 0 where
  two : 1 ≤ len → 2 ≤ len
  alike : 2 ≤ len → find_in t n (take (len - 2) l) ≡ find_in t n (unquoted (quote ∷ take (len - 1) l))

between_named : (t : List ℕ) (n : ℕ) (l : List ℕ) (k : ℕ) → Between l k → Named t n l (1 + k)
unfolding unquoted
between_named t n l k g =
    let inner : 1 + k - 2 ≡ g.others = omega (arith, g.count) in
    let rest : 1 + k - 1 ≡ suc g.others = omega (arith, g.count) in
    record { two = λ h. omega (arith, g.count); alike = λ h. rw (inner, rest) (alike_found t n g.alike) }

none_named : (t : List ℕ) (n : ℕ) (l : List ℕ) → Named t n l 0
none_named t n l = record { two = λ h. absurd (omega arith); alike = λ h. absurd (omega arith) }

inside_named : (t : List ℕ) (n : ℕ) (l : List ℕ) (f : Field) → Inside l f → Named t n l (field_len (longer_by 1 f))
inside_named t n l (Field.Comma k) g = between_named t n l k g
inside_named t n l (Field.Line k) g = between_named t n l k g
inside_named t n l (Field.End k) g = between_named t n l k g
inside_named t n l (Field.Cr k) g = between_named t n l k g
inside_named t n l Field.Open g = none_named t n l
inside_named t n l Field.Bad g = none_named t n l

-- The first byte of a text, and those behind it.
front : (l : List ℕ) (k : ℕ) → 1 ≤ k → k ≤ length l → take k l ≡ get_or l 0 0 ∷ take (k - 1) (drop 1 l)
front [] k h g = absurd (omega arith)
front (b ∷ l) zero h g = absurd (omega arith)
front (b ∷ l) (suc k) h g = let e : suc k - 1 ≡ k = omega arith in rw e

-- The bytes of a field.
module _ {x : List ℕ} (h : IsField x) where
  long : length x ≡ field_len (field_at h.text)
  long = ap length h.is ∙ length-take-le (field_len (field_at h.text)) h.text (len_within h.text)

  opening : 1 ≤ length x → x ≡ get_or h.text 0 0 ∷ take (length x - 1) (drop 1 h.text)
  opening some =
      h.is
      ∙ ap (λ (k : ℕ). take k h.text) (sym long)
      ∙ front h.text (length x) some (omega (arith, long, len_within h.text))

  first : 1 ≤ length x → get_or h.text 0 0 ≡ get_or x 0 0
  first some = sym (ap (λ (y : List ℕ). get_or y 0 0) (opening some))

  named : (t : List ℕ) (n : ℕ) → 1 ≤ length x → get_or x 0 0 ≡ quote → Named t n (drop 1 h.text) (length x)
  named t n some e =
      rw (long, start_quote h.text 0 (omega (arith, some, long, len_within h.text)) (first some ∙ e))
      (inside_named t n (drop 1 h.text) (scan quoted (drop 1 h.text)) (scan_stands quoted (drop 1 h.text)))

  -- A field with a quote at its start is looked up without its quotes.
  quoted_found : (t : List ℕ) (n : ℕ) → Quoted x → find_in t n (take (length x - 1 - 1) (drop 1 x)) ≡ find_in t n (unquoted x)
  quoted_found t n q =
      ap (find_in t n) inner
      ∙ (named t n some q.opens).alike q.both
      ∙ ap (λ (b : ℕ). find_in t n (unquoted (b ∷ take (length x - 1) (drop 1 h.text)))) (sym (first some ∙ q.opens))
      ∙ ap (λ (y : List ℕ). find_in t n (unquoted y)) (sym (opening some))
    where
      some : 1 ≤ length x
      some = omega (arith, q.both)

      inner : take (length x - 1 - 1) (drop 1 x) ≡ take (length x - 2) (drop 1 h.text)
      inner =
          ap (λ (y : List ℕ). take (length x - 1 - 1) (drop 1 y)) (opening some)
          ∙ take-take (length x - 1 - 1) (length x - 1) (drop 1 h.text) (omega arith)
          ∙ ap (λ (k : ℕ). take k (drop 1 h.text)) (let k : length x - 1 - 1 ≡ length x - 2 = omega arith in k)

  -- Another field is looked up as it is.
  plain_found : (t : List ℕ) (n : ℕ) → (Quoted x → ⊥) → find_in t n x ≡ find_in t n (unquoted x)
  unfolding unquoted
  plain_found t n q = by x refl
    where
      by : (y : List ℕ) → x ≡ y → find_in t n y ≡ find_in t n (unquoted y)
      by [] e = refl
      by (b ∷ y) e =
          rw (ne_eqb b quote (λ d.
          q (record {
            both = (named t n (omega (arith, ap length e)) (ap (λ (z : List ℕ). get_or z 0 0) e ∙ d)).two (omega (arith, ap length e));
            opens = ap (λ (z : List ℕ). get_or z 0 0) e ∙ d;
          })))

-- What the test of its quotes tells: too few bytes, or by the first one.
pub quotes_none : {x : List ℕ} → length x < 2 → Tells (Quoted x) false
quotes_none g = tells_no (λ q. omega (arith, q.both))

pub quotes_by : {x : List ℕ} → 2 ≤ length x → Tells (Quoted x) (eqb (get_or x 0 0) quote)
quotes_by {x} g = tells_eqb (get_or x 0 0) quote (λ e. record { both = omega arith; opens = e }) (λ q. q.opens)

-- What looking up a field's name answers, by that test.
module _ {x : List ℕ} {b : Bool} (told : Tells (Quoted x) b) where
  pub before_quote : b ≡ true → 1 ≤ length x
  before_quote e = omega (arith, (told.holds e).both)

  pub between_quotes : b ≡ true → 1 ≤ length x - 1
  between_quotes e = omega (arith, (told.holds e).both)

  module _ (h : IsField x) {t : List ℕ} {n : ℕ} {r : Found} where
    pub item_quoted : {y : List ℕ} → b ≡ true → y ≡ take (length x - 1 - 1) (drop 1 x) → FindSays t n y (said_found r) → r ≡ find_in t n (unquoted x)
    item_quoted e f g = find_told g ∙ ap (find_in t n) f ∙ quoted_found h t n (told.holds e)

    pub item_plain : b ≡ false → FindSays t n x (said_found r) → r ≡ find_in t n (unquoted x)
    item_plain e g = find_told g ∙ plain_found h t n (told.fails e)
