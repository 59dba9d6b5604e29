-- The promise of `kept_columns`: which columns of an export a reader may see, by labelled items, the reader's class and the export's header.
-- Assumes nothing.
use Rattle.std.specs.Prelude.{◌≡◌, Bool, cond, List, [], ◌∷◌, ◌++◌, ℕ, ◌≤◌, ◌<◌, length, drop, Option, Some, None, Result, Ok, Err}
use Rattle.laws.specs.First.{AllBelow, FirstFailing}
use Rattle.classes.specs.declared.Class.{Class}
use Rattle.items.specs.Table.{ItemsOk}
use Rattle.labels.specs.Labels.{labels_in, LevelInRange, Room}
use Rattle.rules.specs.declared.Head.{Head}
use Rattle.refusals.specs.Said.{Said, success, refused_by, said_refusal}
use Rattle.refusals.specs.declared.Fault.{Fault}
use Rattle.records.specs.Rows.{Record, whole, more, bad, record_at, most_fields}
use Rattle.exports.specs.Names.{HeaderOk, KeepsCovered}
use Rattle.refusals.specs.declared.Refusal.{Refusal}

-- What an answer says: the number of the columns, or that the text ends before the header does; or a refusal.
abbrev pub said_kept : ℕ → Said
said_kept n = success 0 (n ∷ [])

abbrev pub said_more : Said
said_more = success 1 []

abbrev pub said_columns : Result (Option ℕ) Refusal → Said
said_columns (Ok (Some n)) = said_kept n
said_columns (Ok None) = said_more
said_columns (Err r) = said_refusal r

-- The header at the front of a text: "No bytes at all is 16 at 1".
abbrev pub header_at : Bool → List ℕ → Record
header_at last [] = cond last bad more
header_at last (b ∷ l) = record_at last most_fields (b ∷ l)

-- What is said of an export by its header, for n items with these names and labels: 16, then 17, then 11, each at its place and with the buffer
-- as it was; or the number of columns, and of each whether it is kept.
pub data HeaderSays (t : List ℕ) (n : ℕ) (labels : ℕ → Class) (reader : Class) (export : List ℕ) (last : Bool) (before : List Bool)
    : Said → List Bool → Type 0 where
  bad_header : header_at last export ≡ bad → HeaderSays t n labels reader export last before (refused_by Fault.CsvSyntax 1) before
  more_header : header_at last export ≡ more → HeaderSays t n labels reader export last before said_more before
  bad_names : {fs : List (List ℕ)} {k : ℕ} → header_at last export ≡ whole fs k → (HeaderOk t n fs → ⊥) →
      HeaderSays t n labels reader export last before (refused_by Fault.CsvHeader 1) before
  no_room : {fs : List (List ℕ)} {k : ℕ} → header_at last export ≡ whole fs k → HeaderOk t n fs → length before < length fs →
      HeaderSays t n labels reader export last before (refused_by Fault.NoRoom 0) before
  keeps : {fs : List (List ℕ)} {k : ℕ} {kept : List Bool} → header_at last export ≡ whole fs k → HeaderOk t n fs → length fs ≤ length before →
      KeepsCovered t n labels reader fs kept →
      HeaderSays t n labels reader export last before (said_kept (length fs)) (kept ++ drop (length fs) before)

-- The promise of `kept_columns`: 10 for the item table, 11 for the labels, 12 at the first item whose level is over 15; then the header. The buffer held `before`.
pub data ColumnsSays (t : List ℕ) (h : Head) (levels marks : List ℕ) (reader : Class) (export : List ℕ) (last : Bool) (before : List Bool)
    : Said → List Bool → Type 0 where
  bad_items : (ItemsOk t h.items → ⊥) → ColumnsSays t h levels marks reader export last before (refused_by Fault.BadTable 0) before
  few_labels : ItemsOk t h.items → (Room h.items levels marks → ⊥) →
      ColumnsSays t h levels marks reader export last before (refused_by Fault.NoRoom 0) before
  bad_label : {i : ℕ} → ItemsOk t h.items → Room h.items levels marks → FirstFailing (LevelInRange levels) h.items i →
      ColumnsSays t h levels marks reader export last before (refused_by Fault.BadLabel i) before
  headed : {s : Said} {after : List Bool} → ItemsOk t h.items → Room h.items levels marks → AllBelow (LevelInRange levels) h.items →
      HeaderSays t h.items (labels_in levels marks) reader export last before s after →
      ColumnsSays t h levels marks reader export last before s after
