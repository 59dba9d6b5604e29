-- What the inner functions need and give: the line of a record whose fields end at known places, and lines put into a buffer that has room for every one.
-- Assumes nothing.
use Rattle.std.specs.Prelude.{◌≡◌, Bool, cond, ◌&&◌, List, [], ◌∷◌, ◌++◌, ℕ, ◌+◌, ◌-◌, ◌≤◌, ◌<◌, ltb, eqb, length, Option, Some, None}
use Rattle.laws.specs.Over.{over}
use Rattle.scans.specs.Ascii.{comma, cr, lf}
use Rattle.records.specs.Rows.{most_fields, line_end, start_at}
use Rattle.records.specs.Inner.{FieldSpans, fields_to}
use Rattle.records.specs.declared.Size.{Size}
use Rattle.refusals.specs.Sizes.{most_text}
use Rattle.exports.specs.Rows.{Taken, taken}
use Rattle.exports.specs.Text.{record_line, record_lines}
use Rattle.stripping.specs.declared.Cut.{Cut}

-- The buffer d' is d with x over what it had from the place `to` on, and had room for it.
pub record Made (d : List ℕ) (to : ℕ) (x d' : List ℕ) : Type 0 where
  pub buffer : d' ≡ over d to x
  pub room : to + length x ≤ length d

-- There is room for all that is made of the text.
pub record Spacious (l d : List ℕ) : Type 0 where
  pub room : length l + line_end ≤ length d

-- What was made up to the place `to` is no longer than what was taken up to `at`, but for the line end of a last record.
pub record NoLonger (l : List ℕ) (at to : ℕ) : Type 0 where
  pub most : to ≤ at + line_end
  pub inside : at < length l → to ≤ at
  pub within : at ≤ length l

-- The line of a record is to be put whose fields end at these places.
pub record PutReady (l : List ℕ) (at : ℕ) (ends : List ℕ) (columns : ℕ) (d : List ℕ) (to : ℕ) : Type 0 where
  pub spacious : Spacious l d
  pub here : at < length l
  pub fits : to ≤ at
  pub spans : FieldSpans l at ends columns

-- It was put, and is no longer than the record with a CRLF.
pub record RowPut (l : List ℕ) (at : ℕ) (ends : List ℕ) (kept : List Bool) (d : List ℕ) (to r : ℕ) (d' : List ℕ) : Type 0 where
  pub made : Made d to (record_line kept (fields_to l at ends (length kept))) d'
  pub next : r ≡ to + length (record_line kept (fields_to l at ends (length kept)))
  pub most : length (record_line kept (fields_to l at ends (length kept))) ≤ start_at at ends (length kept) - at - 1 + line_end

-- A field that is kept, with a comma behind it, or nothing.
abbrev pub kept_field : Bool → List ℕ → List ℕ
kept_field kept f = cond kept (f ++ comma ∷ []) []

-- There is room for a field and a comma.
pub record KeepReady (f d : List ℕ) (to : ℕ) : Type 0 where
  pub room : to + length f + 1 ≤ length d

-- The field is put, if it is kept, and r is the place behind it.
pub record Keeps (f : List ℕ) (kept : Bool) (d : List ℕ) (to r : ℕ) (d' : List ℕ) : Type 0 where
  pub made : Made d to (kept_field kept f) d'
  pub next : r ≡ to + length (kept_field kept f)

-- Where the line end goes of what was made from `to` up to n: over the comma, if a field was put.
abbrev pub line_place : ℕ → ℕ → ℕ
line_place to n = cond (ltb to n) (n - 1) n

pub record EndReady (d : List ℕ) (to n : ℕ) : Type 0 where
  pub over_comma : to < n → n + 1 ≤ length d
  pub here : n ≤ to → n + line_end ≤ length d

pub record EndsLine (d : List ℕ) (to n r : ℕ) (d' : List ℕ) : Type 0 where
  pub made : Made d (line_place to n) (cr ∷ lf ∷ []) d'
  pub next : r ≡ line_place to n + line_end

-- The lines of a text are to be put into a buffer with room for all of them.
pub record TakeReady (l : List ℕ) (kept : List Bool) (d : List ℕ) : Type 0 where
  pub spacious : Spacious l d
  pub narrow : length kept ≤ most_fields

-- The text and the columns are no more than there may be.
pub record ShortReady (l : List ℕ) (kept : List Bool) : Type 0 where
  pub short : length l ≤ most_text
  pub narrow : length kept ≤ most_fields

-- What was cut: None where the first record is bad.
abbrev pub front_cut : List Bool → Taken → Option Cut
front_cut kept t =
    cond (eqb (length t.rows) 0 && t.faulty) None
    (Some (record { used = t.used; len = length (record_lines kept t.rows); records = length t.rows }))

-- What was taken from the front of l, and put from the front of the buffer on.
pub record FrontSays (l : List ℕ) (last : Bool) (kept : List Bool) (d : List ℕ) (r : Option Cut) (d' : List ℕ) : Type 0 where
  pub made : Made d 0 (record_lines kept (taken last (length kept) l).rows) d'
  pub cut : r ≡ front_cut kept (taken last (length kept) l)

-- A record by the number of columns: "a field count unlike the header's" is bad.
abbrev pub fitted_size : ℕ → Size → Size
fitted_size columns (Size.Whole x) = cond (eqb x.fields columns) (Size.Whole x) Size.Bad
fitted_size columns Size.More = Size.More
fitted_size columns Size.Bad = Size.Bad
