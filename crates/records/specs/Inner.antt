-- What the inner functions of `records` give, and the fields of a record by where they end, of which the crates above speak in their inner contracts.
-- Assumes nothing.
use Rattle.std.specs.Prelude.{◌≡◌, Bool, cond, List, [], ◌∷◌, ◌++◌, ℕ, zero, suc, ◌+◌, ◌≤◌, ◌<◌, length, get_or, drop, Option, Some, None, unwrap_or}
use Rattle.records.specs.Fields.{plain, quoted, scan, behind, longer_by, field_at, field_len}
use Rattle.scans.specs.Ascii.{quote}
use Rattle.records.specs.Rows.{line_end, few_bytes, start_at, nth_field}
use Rattle.records.specs.declared.Field.{Field}
use Rattle.records.specs.declared.Size.{Size}

-- r bytes from a place on stand in a field without quotes, which ends behind them.
pub record PlainRun (l : List ℕ) (at r : ℕ) : Type 0 where
  pub scans : scan plain (drop at l) ≡ longer_by r (behind (drop (at + r) l))
  pub within : at + r ≤ length l

-- r bytes behind a place between quotes it is still between quotes, and a quote or nothing stands there.
pub record QuotedRun (l : List ℕ) (at r : ℕ) : Type 0 where
  pub scans : scan quoted (drop at l) ≡ longer_by r (scan quoted (drop (at + r) l))
  pub within : at + r ≤ length l
  pub stops : at + r < length l → get_or l (at + r) 0 ≡ quote

-- From a place between quotes on: the field is open where no quote closes it; else the closing quote is the last of so many bytes.
abbrev pub closed_field : List ℕ → ℕ → Option ℕ → Field
closed_field l at None = Field.Open
closed_field l at (Some n) = longer_by n (behind (drop (at + n) l))

pub record Closing (l : List ℕ) (at : ℕ) (r : Option ℕ) : Type 0 where
  pub scans : scan quoted (drop at l) ≡ closed_field l at r
  pub within : at + unwrap_or r 0 ≤ length l

-- The size by counts alone: of a record of c fields and k bytes with a line end of e bytes, and of one that does not end in the text and has at least k bytes.
abbrev pub closed_size : ℕ → ℕ → ℕ → Size
closed_size c k e = cond (few_bytes k) (Size.Whole (record { fields = c; bytes = k + e })) Size.Bad

abbrev pub unfinished_size : ℕ → Size
unfinished_size k = cond (few_bytes k) Size.More Size.Bad

-- The size of a record whose last field is this one: of c fields, with k bytes before it, in a text that has n bytes from the record on.
abbrev pub ended_by : Bool → ℕ → ℕ → ℕ → Field → Size
ended_by last n c k (Field.Line m) = closed_size c (k + m) line_end
ended_by last n c k (Field.End m) = cond last (closed_size c (k + m) 0) (unfinished_size (k + m))
ended_by last n c k (Field.Cr m) = cond last Size.Bad (unfinished_size (k + m))
ended_by last n c k Field.Open = cond last Size.Bad (unfinished_size (n + 1))
ended_by last n c k (Field.Comma m) = Size.Bad
ended_by last n c k Field.Bad = Size.Bad

-- The field at one place of l ends at another place.
pub record FieldSpan (l : List ℕ) (from to : ℕ) : Type 0 where
  pub start : from ≤ length l
  pub end : to ≡ from + field_len (field_at (drop from l))

-- So does each of the first n fields of a record at a place, whose fields end at these places.
pub record FieldSpans (l : List ℕ) (at : ℕ) (ends : List ℕ) (n : ℕ) : Type 0 where
  pub each : (c : ℕ) → c < n → FieldSpan l (start_at at ends c) (get_or ends c 0)

-- These fields.
unfoldable pub fields_to : List ℕ → ℕ → List ℕ → ℕ → List (List ℕ)
fields_to l at ends zero = []
fields_to l at ends (suc c) = fields_to l at ends c ++ nth_field l at ends c ∷ []
