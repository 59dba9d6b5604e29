-- A field of RFC 4180 at the front of a text, as a machine that goes from byte to byte. A text at a place is what is left of it there, a
-- suffix.
-- Assumes nothing.
use Rattle.std.specs.Prelude.{Bool, cond, not, ◌||◌, List, [], ◌∷◌, ℕ, ◌+◌, eqb}
use Rattle.scans.specs.Ascii.{comma, quote, cr, lf}
use Rattle.records.specs.declared.Field.{Field}

-- "Bytes outside ASCII and controls are allowed in a field": a field without quotes holds any bytes but comma, quote, CR and LF.
unfoldable pub plain_byte : ℕ → Bool
plain_byte b = not (eqb b comma || eqb b quote || eqb b cr || eqb b lf)

-- The field is n bytes longer.
abbrev pub longer_by : ℕ → Field → Field
longer_by n (Field.Comma k) = Field.Comma (n + k)
longer_by n (Field.Line k) = Field.Line (n + k)
longer_by n (Field.End k) = Field.End (n + k)
longer_by n (Field.Cr k) = Field.Cr (n + k)
longer_by n Field.Open = Field.Open
longer_by n Field.Bad = Field.Bad

-- A field ends here. A comma, a CRLF, nothing, or a CR with nothing behind it stands behind it; "a bare CR or LF outside quotes" is bad.
unfoldable pub after_cr : List ℕ → Field
after_cr [] = Field.Cr 0
after_cr (b ∷ l) = cond (eqb b lf) (Field.Line 0) Field.Bad

unfoldable pub behind : List ℕ → Field
behind [] = Field.End 0
behind (b ∷ l) = cond (eqb b comma) (Field.Comma 0) (cond (eqb b cr) (after_cr l) Field.Bad)

-- Where in a field the next byte stands: at its start, in a field without quotes, between quotes, or behind a quote that closes the field if no
-- other quote follows.
pub data Where : Type 0 where
  start : Where
  plain : Where
  quoted : Where
  closed : Where

-- The machine: "quoted fields, doubled quotes, commas and CRLF inside quotes".
unfoldable pub scan : Where → List ℕ → Field
scan quoted [] = Field.Open
scan start [] = behind []
scan plain [] = behind []
scan closed [] = behind []
scan start (b ∷ l) = cond (eqb b quote) (longer_by 1 (scan quoted l)) (cond (plain_byte b) (longer_by 1 (scan plain l)) (behind (b ∷ l)))
scan plain (b ∷ l) = cond (plain_byte b) (longer_by 1 (scan plain l)) (behind (b ∷ l))
scan quoted (b ∷ l) = cond (eqb b quote) (longer_by 1 (scan closed l)) (longer_by 1 (scan quoted l))
scan closed (b ∷ l) = cond (eqb b quote) (longer_by 1 (scan quoted l)) (behind (b ∷ l))

-- The field at the front.
abbrev pub field_at : List ℕ → Field
field_at l = scan start l

-- Its bytes; none where it is no field.
abbrev pub field_len : Field → ℕ
field_len (Field.Comma n) = n
field_len (Field.Line n) = n
field_len (Field.End n) = n
field_len (Field.Cr n) = n
field_len Field.Open = 0
field_len Field.Bad = 0
