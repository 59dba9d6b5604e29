-- What the inner functions need and give: the fields of a header and the items that they name, and which columns a class covers.
-- Assumes nothing.
use Rattle.std.specs.Prelude.{◌≡◌, Bool, true, false, List, ℕ, ◌≤◌, ◌<◌, length, get_or, take, drop, Some, Ok, Option, None, Result, Err}
use Rattle.laws.specs.Tells.{Tells}
use Rattle.classes.specs.Class.{Covers}
use Rattle.classes.specs.declared.Class.{Class}
use Rattle.refusals.specs.declared.Fault.{Fault}
use Rattle.scans.specs.Ascii.{quote}
use Rattle.records.specs.Fields.{field_at, field_len}
use Rattle.records.specs.Rows.{whole, more, bad, most_fields}
use Rattle.records.specs.Inner.{FieldSpans}
use Rattle.exports.specs.Names.{column_item, HeaderOk}
use Rattle.columns.specs.Columns.{header_at}
use Rattle.refusals.specs.declared.Refusal.{Refusal}

-- The answer that is a refusal.
abbrev pub refused_for : Fault → ℕ → Result (Option ℕ) Refusal
refused_for f p = Err (record { fault = f; place = p })

-- The bytes are those of the field at the front of some text.
pub record IsField (x : List ℕ) : Type 0 where
  pub text : List ℕ
  pub is : x ≡ take (field_len (field_at text)) text

-- A field has quotes around it.
pub record Quoted (x : List ℕ) : Type 0 where
  pub both : 2 ≤ length x
  pub opens : get_or x 0 0 ≡ quote

-- A number is one of the first c.
pub record HoldsNumber (numbers : List ℕ) (c number : ℕ) : Type 0 where
  pub place : ℕ
  pub below : place < c
  pub same : get_or numbers place 0 ≡ number

-- There is room for the item of each column.
pub record NumberRoom (numbers : List ℕ) : Type 0 where
  pub size : length numbers ≡ most_fields

-- The header's fields end at these places, and there is room for the item of each column.
pub record HeaderReady (export ends : List ℕ) (fields : ℕ) (numbers : List ℕ) : Type 0 where
  pub spans : FieldSpans export 0 ends fields
  pub room : fields ≤ length numbers

-- The item of each column.
pub record Numbered (t : List ℕ) (n : ℕ) (fs : List (List ℕ)) (numbers : List ℕ) : Type 0 where
  pub each : (c : ℕ) → c < length fs → column_item t n fs c ≡ Ok (Some (get_or numbers c 0))

-- Whether each name is an item and none is repeated; if so, their items are known.
pub record FindsItems (t : List ℕ) (n : ℕ) (fs : List (List ℕ)) (r : Bool) (numbers : List ℕ) : Type 0 where
  pub told : Tells (HeaderOk t n fs) r
  pub items : r ≡ true → Numbered t n fs numbers

-- The header at the front of an export has k fields, each name is an item and none is repeated, and their items are known.
pub record Headed (t : List ℕ) (n : ℕ) (export : List ℕ) (last : Bool) (k : ℕ) (numbers : List ℕ) : Type 0 where
  pub fields : List (List ℕ)
  pub bytes : ℕ
  pub header : header_at last export ≡ whole fields bytes
  pub count : k ≡ length fields
  pub few : k ≤ most_fields
  pub names : HeaderOk t n fields
  pub items : Numbered t n fields numbers

-- What reading the header answers: 16 or 17 at 1, that the text ends before it does, or the number of the columns.
pub data HeadSays (t : List ℕ) (n : ℕ) (export : List ℕ) (last : Bool) (numbers : List ℕ) : Result (Option ℕ) Refusal → Type 0 where
  no_header : header_at last export ≡ bad → HeadSays t n export last numbers (refused_for Fault.CsvSyntax 1)
  part_header : header_at last export ≡ more → HeadSays t n export last numbers (Ok None)
  no_names : {fs : List (List ℕ)} {k : ℕ} → header_at last export ≡ whole fs k → (HeaderOk t n fs → ⊥) →
      HeadSays t n export last numbers (refused_for Fault.CsvHeader 1)
  good_header : {k : ℕ} → Headed t n export last k numbers → HeadSays t n export last numbers (Ok (Some k))

-- There is a number for each column, and room to say of each whether it is covered.
pub record CoverReady (numbers : List ℕ) (fields : ℕ) (kept : List Bool) : Type 0 where
  pub numbered : fields ≤ length numbers
  pub room : fields ≤ length kept

-- It is said of each of so many columns whether the class covers the label of its item; the rest of the buffer is as it was.
pub record Covering (labels : ℕ → Class) (reader : Class) (numbers : List ℕ) (fields : ℕ) (before after : List Bool) : Type 0 where
  pub sized : length after ≡ length before
  pub told : (c : ℕ) → c < fields → Tells (Covers reader (labels (get_or numbers c 0))) (get_or after c false)
  pub rest : drop fields after ≡ drop fields before

-- The same as an answer: the number of the columns, or 11 at 0.
pub data KeepSays (labels : ℕ → Class) (reader : Class) (numbers : List ℕ) (fields : ℕ) (before : List Bool)
    : Result (Option ℕ) Refusal → List Bool → Type 0 where
  roomless : length before < fields → KeepSays labels reader numbers fields before (refused_for Fault.NoRoom 0) before
  covers : {after : List Bool} → fields ≤ length before → Covering labels reader numbers fields before after →
      KeepSays labels reader numbers fields before (Ok (Some fields)) after
