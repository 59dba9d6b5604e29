-- The machine's steps, byte by byte, and what stands behind a field, at a place of a text. They rest on the definitions and on the laws of
-- places.
-- Assumes nothing.
use mathlib.Core.Path.{◌≡◌, refl}
use mathlib.Core.Bool.{true, false}
use mathlib.Core.Logic.{◌⊎◌, inl, inr}
use mathlib.Core.List.{List, [], ◌∷◌}
use Prim.Native.Nat.{ℕ, ◌+◌, ◌≤◌, ◌<◌}
use native.Mathlib.Nat.{add-zero, add_assoc, zero-add}
use native.Mathlib.Omega.{arith}
use lib.ListN.{length, get_or, drop, drop_of_length-le}
use borrow.Author.Tests.{eq-eqb, ne_eqb}
use Rattle.scans.specs.Ascii.{comma, quote, cr, lf}
use Rattle.scans.specs.Bytes.{byte_at}
use Rattle.scans.proofs.Places.{drop_step}
use Rattle.records.specs.Fields.{plain_byte, longer_by, after_cr, behind}
use Rattle.records.specs.Fields.{plain, quoted, closed, scan, field_at}
use Rattle.records.specs.declared.Field.{Field}

-- A field that is longer twice is longer by both.
pub longer_longer : (a b : ℕ) (f : Field) → longer_by a (longer_by b f) ≡ longer_by (a + b) f
longer_longer a b (Field.Comma k) = rw (add_assoc a b k)
longer_longer a b (Field.Line k) = rw (add_assoc a b k)
longer_longer a b (Field.End k) = rw (add_assoc a b k)
longer_longer a b (Field.Cr k) = rw (add_assoc a b k)
longer_longer a b Field.Open = refl
longer_longer a b Field.Bad = refl

-- A field that is longer by nothing is the same.
pub longer_none : (f : Field) → f ≡ longer_by 0 f
longer_none (Field.Comma k) = rw (zero-add k)
longer_none (Field.Line k) = rw (zero-add k)
longer_none (Field.End k) = rw (zero-add k)
longer_none (Field.Cr k) = rw (zero-add k)
longer_none Field.Open = refl
longer_none Field.Bad = refl

-- Each of the four bytes is not plain, and any other byte is.
pub plain_comma : {b : ℕ} → b ≡ comma → false ≡ plain_byte b
unfolding plain_byte
plain_comma {b} e = rw (eq-eqb b comma e)

pub plain_quote : {b : ℕ} → b ≡ quote → false ≡ plain_byte b
unfolding plain_byte
plain_quote {b} e = rw (ne_eqb b comma (λ z. omega arith), eq-eqb b quote e)

pub plain_cr : {b : ℕ} → b ≡ cr → false ≡ plain_byte b
unfolding plain_byte
plain_cr {b} e = rw (ne_eqb b comma (λ z. omega arith), ne_eqb b quote (λ z. omega arith), eq-eqb b cr e)

pub plain_lf : {b : ℕ} → b ≡ lf → false ≡ plain_byte b
unfolding plain_byte
plain_lf {b} e = rw (ne_eqb b comma (λ z. omega arith), ne_eqb b quote (λ z. omega arith), ne_eqb b cr (λ z. omega arith), eq-eqb b lf e)

pub plain_none : {b : ℕ} → (b ≡ lf) ⊎ ((b ≡ cr) ⊎ ((b ≡ quote) ⊎ (b ≡ comma))) → false ≡ plain_byte b
plain_none (inl e) = plain_lf e
plain_none (inr (inl e)) = plain_cr e
plain_none (inr (inr (inl e))) = plain_quote e
plain_none (inr (inr (inr e))) = plain_comma e

pub plain_other : {b : ℕ} → (b ≡ comma → ⊥) → (b ≡ quote → ⊥) → (b ≡ cr → ⊥) → (b ≡ lf → ⊥) → true ≡ plain_byte b
unfolding plain_byte
plain_other {b} h i j k = rw (ne_eqb b comma h, ne_eqb b quote i, ne_eqb b cr j, ne_eqb b lf k)

-- Behind a field at a place: nothing, a comma, another byte, a CR at the end, a CRLF, a CR with another byte behind it.
module _ (l : List ℕ) (i : ℕ) where
  pub behind_none : length l ≤ i → behind (drop i l) ≡ Field.End 0
  unfolding behind
  behind_none h = rw (drop_of_length-le l h)

  module _ (h : i < length l) where
    pub behind_comma : get_or l i 0 ≡ comma → behind (drop i l) ≡ Field.Comma 0
    unfolding behind
    behind_comma e = rw (drop_step l i h, eq-eqb (get_or l i 0) comma e)

    pub behind_other : (get_or l i 0 ≡ comma → ⊥) → (get_or l i 0 ≡ cr → ⊥) → behind (drop i l) ≡ Field.Bad
    unfolding behind
    behind_other e f = rw (drop_step l i h, ne_eqb (get_or l i 0) comma e, ne_eqb (get_or l i 0) cr f)

    pub behind_cr : get_or l i 0 ≡ cr → behind (drop i l) ≡ after_cr (drop (i + 1) l)
    unfolding behind
    behind_cr e = rw (drop_step l i h, ne_eqb (get_or l i 0) comma (λ z. omega arith), eq-eqb (get_or l i 0) cr e)

  pub cr_none : length l ≤ i → after_cr (drop i l) ≡ Field.Cr 0
  unfolding after_cr
  cr_none h = rw (drop_of_length-le l h)

  pub cr_lf : i < length l → get_or l i 0 ≡ lf → after_cr (drop i l) ≡ Field.Line 0
  unfolding after_cr
  cr_lf h e = rw (drop_step l i h, eq-eqb (get_or l i 0) lf e)

  pub cr_other : i < length l → (get_or l i 0 ≡ lf → ⊥) → after_cr (drop i l) ≡ Field.Bad
  unfolding after_cr
  cr_other h e = rw (drop_step l i h, ne_eqb (get_or l i 0) lf e)

-- Behind a closing quote stands what stands behind the field.
pub closed_shut : (l : List ℕ) → (byte_at l ≡ quote → ⊥) → scan closed l ≡ behind l
unfolding scan
closed_shut [] e = refl
closed_shut (b ∷ l) e = rw (ne_eqb b quote e)

-- The machine at a place: a byte of a field without quotes, and the end of one.
module _ (l : List ℕ) (i : ℕ) where
  pub plain_end : length l ≤ i → scan plain (drop i l) ≡ behind (drop i l)
  unfolding scan
  plain_end h = rw (drop_of_length-le l h)

  module _ (h : i < length l) where
    pub plain_on : plain_byte (get_or l i 0) ≡ true → scan plain (drop i l) ≡ longer_by 1 (scan plain (drop (i + 1) l))
    unfolding scan
    plain_on e = rw (drop_step l i h, e)

    pub plain_stop : plain_byte (get_or l i 0) ≡ false → scan plain (drop i l) ≡ behind (drop i l)
    unfolding scan
    plain_stop e = rw (drop_step l i h, e)

  -- Between quotes: nothing, another byte, a quote; behind a quote, another one. At a field's start: a quote, another byte, nothing.
  pub quoted_end : length l ≤ i → scan quoted (drop i l) ≡ Field.Open
  unfolding scan
  quoted_end h = rw (drop_of_length-le l h)

  module _ (h : i < length l) where
    pub quoted_on : (get_or l i 0 ≡ quote → ⊥) → scan quoted (drop i l) ≡ longer_by 1 (scan quoted (drop (i + 1) l))
    unfolding scan
    quoted_on e = rw (drop_step l i h, ne_eqb (get_or l i 0) quote e)

    pub quoted_quote : get_or l i 0 ≡ quote → scan quoted (drop i l) ≡ longer_by 1 (scan closed (drop (i + 1) l))
    unfolding scan
    quoted_quote e = rw (drop_step l i h, eq-eqb (get_or l i 0) quote e)

    pub closed_quote : get_or l i 0 ≡ quote → scan closed (drop i l) ≡ longer_by 1 (scan quoted (drop (i + 1) l))
    unfolding scan
    closed_quote e = rw (drop_step l i h, eq-eqb (get_or l i 0) quote e)

    pub start_quote : get_or l i 0 ≡ quote → field_at (drop i l) ≡ longer_by 1 (scan quoted (drop (i + 1) l))
    unfolding scan
    start_quote e = rw (drop_step l i h, eq-eqb (get_or l i 0) quote e)

    pub start_other : (get_or l i 0 ≡ quote → ⊥) → field_at (drop i l) ≡ scan plain (drop i l)
    unfolding scan
    start_other e = rw (drop_step l i h, ne_eqb (get_or l i 0) quote e)

  pub start_end : length l ≤ i → field_at (drop i l) ≡ Field.End 0
  unfolding scan behind
  start_end h = rw (drop_of_length-le l h)

-- The field of len bytes at a place, by what stands behind it.
module _ (l : List ℕ) (at len : ℕ) where
  pub found_end : length l ≤ at + len → Field.End len ≡ longer_by len (behind (drop (at + len) l))
  found_end h = rw (behind_none l (at + len) h, add-zero len)

  pub found_comma : at + len < length l → get_or l (at + len) 0 ≡ comma → Field.Comma len ≡ longer_by len (behind (drop (at + len) l))
  found_comma h e = rw (behind_comma l (at + len) h e, add-zero len)

  pub found_bad : at + len < length l → (get_or l (at + len) 0 ≡ comma → ⊥) → (get_or l (at + len) 0 ≡ cr → ⊥)
      → Field.Bad ≡ longer_by len (behind (drop (at + len) l))
  found_bad h e f = rw (behind_other l (at + len) h e f)

  module _ (h : at + len < length l) (e : get_or l (at + len) 0 ≡ cr) where
    pub found_cr : length l ≤ at + len + 1 → Field.Cr len ≡ longer_by len (behind (drop (at + len) l))
    found_cr g = rw (behind_cr l (at + len) h e, cr_none l (at + len + 1) g, add-zero len)

    pub found_line : at + len + 1 < length l → get_or l (at + len + 1) 0 ≡ lf → Field.Line len ≡ longer_by len (behind (drop (at + len) l))
    found_line g f = rw (behind_cr l (at + len) h e, cr_lf l (at + len + 1) g f, add-zero len)

    pub found_cr_bad : at + len + 1 < length l → (get_or l (at + len + 1) 0 ≡ lf → ⊥) → Field.Bad ≡ longer_by len (behind (drop (at + len) l))
    found_cr_bad g f = rw (behind_cr l (at + len) h e, cr_other l (at + len + 1) g f)
