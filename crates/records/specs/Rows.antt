-- The record at the front of a text: its fields, and whether it is whole, unfinished or none; where its fields end, and each field by these ends.
-- Assumes nothing.
use Rattle.std.specs.Prelude.{◌≡◌, Bool, cond, List, [], ◌∷◌, ℕ, zero, suc, ◌+◌, ◌-◌, min, leb, length, get_or, take, drop}
use Rattle.laws.specs.Over.{over}
use Rattle.records.specs.Fields.{field_at, field_len}
use Rattle.records.specs.declared.Field.{Field}
use Rattle.records.specs.declared.Size.{Size}

-- "A record has at most 4,096 bytes before its CRLF and 256 fields."
abbrev pub most_bytes : ℕ
most_bytes = 4096

abbrev pub most_fields : ℕ
most_fields = 256

-- The bytes of a CRLF.
abbrev pub line_end : ℕ
line_end = 2

-- Fields with commas between them: their bytes, quotes kept, and how many bytes they are together. A CRLF stands behind the last field, or
-- nothing, or half of a CRLF, its CR with nothing behind it; or the text ends between quotes; or it is no row.
pub data Row : Type 0 where
  line : List (List ℕ) → ℕ → Row
  bare : List (List ℕ) → ℕ → Row
  halved : ℕ → Row
  cut : Row
  broken : Row

-- A field and a comma before a row.
abbrev pub field_before : List ℕ → ℕ → Row → Row
field_before f n (line fs k) = line (f ∷ fs) (n + 1 + k)
field_before f n (bare fs k) = bare (f ∷ fs) (n + 1 + k)
field_before f n (halved k) = halved (n + 1 + k)
field_before f n cut = cut
field_before f n broken = broken

-- The row of which the first field is this one.
abbrev pub row_from : (List ℕ → Row) → List ℕ → Field → Row
row_from rest l (Field.Comma n) = field_before (take n l) n (rest (drop (n + 1) l))
row_from rest l (Field.Line n) = line (take n l ∷ []) n
row_from rest l (Field.End n) = bare (take n l ∷ []) n
row_from rest l (Field.Cr n) = halved n
row_from rest l Field.Open = cut
row_from rest l Field.Bad = broken

-- The row at the front of a text, with at most so many fields.
unfoldable pub row_of : ℕ → List ℕ → Row
row_of zero l = broken
row_of (suc most) l = row_from (row_of most) l (field_at l)

-- A record: its fields and its bytes with its line end; or the text ends before it does; or it is none.
pub data Record : Type 0 where
  whole : List (List ℕ) → ℕ → Record
  more : Record
  bad : Record

-- A record may have k bytes before its line end.
abbrev pub few_bytes : ℕ → Bool
few_bytes k = leb k most_bytes

-- A row of k bytes with a line end of e bytes behind it.
abbrev pub closed_by : List (List ℕ) → ℕ → ℕ → Record
closed_by fs k e = cond (few_bytes k) (whole fs (k + e)) bad

-- The text ends before the record does, which has at least k bytes before its line end. If these are too many, it is none, whatever comes.
abbrev pub unfinished : ℕ → Record
unfinished k = cond (few_bytes k) more bad

-- What the row at the front of a text of n bytes is as a record. Behind the last text there is nothing: "the last record may have none", no
-- line end. Between quotes at least one byte is to come, the closing quote.
abbrev pub judged : Bool → ℕ → Row → Record
judged last n (line fs k) = closed_by fs k line_end
judged last n (bare fs k) = cond last (closed_by fs k 0) (unfinished k)
judged last n (halved k) = cond last bad (unfinished k)
judged last n cut = cond last bad (unfinished (n + 1))
judged last n broken = bad

-- The record at the front of a text, with at most so many fields.
unfoldable pub record_at : Bool → ℕ → List ℕ → Record
record_at last most l = judged last (length l) (row_of most l)

-- Its number of fields and of bytes.
abbrev pub size_of : Record → Size
size_of (whole fs k) = Size.Whole (record { fields = length fs; bytes = k })
size_of more = Size.More
size_of bad = Size.Bad

-- Where the fields end that stand behind this one, if a comma follows it.
abbrev pub ends_behind : (ℕ → List ℕ → List ℕ) → ℕ → List ℕ → Field → List ℕ
ends_behind rest at l (Field.Comma n) = rest (at + n + 1) (drop (n + 1) l)
ends_behind rest at l (Field.Line n) = []
ends_behind rest at l (Field.End n) = []
ends_behind rest at l (Field.Cr n) = []
ends_behind rest at l Field.Open = []
ends_behind rest at l Field.Bad = []

-- Where the fields end of the row at a place, at which l is left of the text: at most so many of them, and up to one with no comma behind it. What is no field
-- has no bytes, and so ends where it starts.
unfoldable pub ends_of : ℕ → ℕ → List ℕ → List ℕ
ends_of zero at l = []
ends_of (suc most) at l = (at + field_len (field_at l)) ∷ ends_behind (ends_of most) at l (field_at l)

-- The promise of `read_row`: the size of the record at a place of l, with at most so many fields, and no more than the buffer has room for; from its front on the
-- buffer holds where the fields end, and the rest of it is as it was.
pub record RowSays (l : List ℕ) (at : ℕ) (last : Bool) (most : ℕ) (ends : List ℕ) (s : Size) (ends' : List ℕ) : Type 0 where
  pub size : s ≡ size_of (record_at last (min most (length ends)) (drop at l))
  pub ends_after : ends' ≡ over ends 0 (ends_of (min most (length ends)) at (drop at l))

-- The bytes from one place of a text up to another.
abbrev pub part_of : List ℕ → ℕ → ℕ → List ℕ
part_of l from to = take (to - from) (drop from l)

-- Where field c starts of a record at a place, whose fields end at these places: at the record's place, or behind the comma of the field before it.
abbrev pub start_at : ℕ → List ℕ → ℕ → ℕ
start_at at ends zero = at
start_at at ends (suc c) = get_or ends c 0 + 1

-- "A kept field is handed back as a part of the record": field c of a record at a place of l, whose fields end at these places.
abbrev pub nth_field : List ℕ → ℕ → List ℕ → ℕ → List ℕ
nth_field l at ends c = part_of l (start_at at ends c) (get_or ends c 0)
