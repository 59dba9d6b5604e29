-- The whole way of the program, but for input and output: what is left of an export by a rulebook and a reader's class; and the calls that a run makes on the
-- pieces that it reads.
-- Assumes nothing.
use Rattle.std.specs.Prelude.{◌≡◌, ℕ, ◌≤◌, Bool, true, false, List, [], length, take, Err, Ok}
use Rattle.classes.specs.declared.Class.{Class}
use Rattle.refusals.specs.declared.Refusal.{Refusal}
use Rattle.refusals.specs.Said.{Said}
use Rattle.rules.specs.declared.Head.{Head}
use Rattle.assign.specs.Assigning.{Lent, said_head, said_assigned, AssignSays}
use Rattle.records.specs.Rows.{most_fields}
use Rattle.exports.specs.Rows.{taken}
use Rattle.exports.specs.Text.{Verdict, refused, stripped_from, HeldBackApart}
use Rattle.columns.specs.Reader.{said_reader, ReaderSays}
use Rattle.columns.specs.Columns.{said_kept, said_more, said_columns, ColumnsSays}
use Rattle.stripping.specs.Calls.{none_to_come, NextRead, Calls}

-- The buffers that are lent for the items, their labels and the columns.
pub record LentRoom : Type 0 where
  pub labelled : Lent
  pub columns : List Bool

-- A labelled book and a reader's class.
pub record Opened : Type 0 where
  pub head : Head
  pub labels : Lent
  pub reader : Class

-- The book is labelled, and the class is one.
pub record Opens (room : LentRoom) (book class : List ℕ) (o : Opened) : Type 0 where
  pub assigned : AssignSays book room.labelled (said_head o.head) o.labels
  pub known : ReaderSays class (said_reader (Ok o.reader))

-- What is said of the columns of an export.
abbrev pub OpenedSays : Opened → List ℕ → Bool → List Bool → Said → List Bool → Type 0
OpenedSays o export last before s after =
    ColumnsSays o.labels.items o.head o.labels.labels.levels o.labels.labels.marks o.reader export last before s after

-- These columns of an export are kept: the header is good, and of each of its columns it is said whether the class covers the label of its item.
pub record KeptIn (room : LentRoom) (book class export : List ℕ) (last : Bool) (kept : List Bool) : Type 0 where
  pub opened : Opened
  pub opens : Opens room book class opened
  pub count : ℕ
  pub after : List Bool
  pub says : OpenedSays opened export last room.columns (said_kept count) after
  pub is : kept ≡ take count after

-- "The book's own come first; then 12 with place 0 for a reader's class that isn't one", then the header's. Every header has room in the buffer that is lent for
-- the columns.
pub data RefusedFirst (room : LentRoom) (book class export : List ℕ) (last : Bool) : Refusal → Type 0 where
  by_book : {r : Refusal} {labels : Lent} → AssignSays book room.labelled (said_assigned (Err r)) labels → RefusedFirst room book class export last r
  by_class : {r : Refusal} {h : Head} {labels : Lent} → AssignSays book room.labelled (said_head h) labels → ReaderSays class (said_reader (Err r)) →
      RefusedFirst room book class export last r
  by_header : {r : Refusal} {o : Opened} {after : List Bool} → Opens room book class o → most_fields ≤ length room.columns →
      OpenedSays o export last room.columns (said_columns (Err r)) after → RefusedFirst room book class export last r

-- What is left of an export: nothing where the book, the class or the header is refused; else its records, the header first, with the columns that are kept,
-- up to a bad one.
pub data LeftOf (room : LentRoom) (book class export : List ℕ) : List ℕ → Verdict → Type 0 where
  refused_first : {r : Refusal} → RefusedFirst room book class export true r → LeftOf room book class export [] (refused r)
  stripped : {kept : List Bool} {text : List ℕ} {v : Verdict} → KeptIn room book class export true kept →
      stripped_from kept 1 export ≡ record { text = text; verdict = v } → LeftOf room book class export text v

-- A run over the bytes that are held and the pieces to come, which starts with nothing held. The book being labelled and the class read, `kept_columns` is called on what is
-- held. Where the header does not end in it, there is a read, and it is called again. With the columns that are kept `strip` is called, from record 1 on. A refusal ends the
-- run, so that what is held is judged before the next read.
pub data Runs (room : LentRoom) (book class : List ℕ) : List ℕ → List (List ℕ) → List ℕ → Verdict → Type 0 where
  waits : {held held' : List ℕ} {pieces pieces' : List (List ℕ)} {text : List ℕ} {v : Verdict} {o : Opened} {after : List Bool} → Opens room book class o →
      OpenedSays o held false room.columns said_more after → NextRead held pieces held' pieces' → Runs room book class held' pieces' text v →
      Runs room book class held pieces text v
  strips : {held : List ℕ} {pieces : List (List ℕ)} {text : List ℕ} {v : Verdict} {kept : List Bool} → KeptIn room book class held (none_to_come pieces) kept →
      Calls kept 1 held pieces text v → Runs room book class held pieces text v
  refuses : {held : List ℕ} {pieces : List (List ℕ)} {r : Refusal} → RefusedFirst room book class held (none_to_come pieces) r →
      Runs room book class held pieces [] (refused r)

-- Two exports "differ only in columns held back": of each some columns are kept, and in these their records have the same bytes.
pub record DifferHeldBack (room : LentRoom) (book class a b : List ℕ) : Type 0 where
  pub kept : List Bool
  pub kept_too : List Bool
  pub first : KeptIn room book class a true kept
  pub second : KeptIn room book class b true kept_too
  pub apart : HeldBackApart kept kept_too (taken true (length kept) a).rows (taken true (length kept_too) b).rows
