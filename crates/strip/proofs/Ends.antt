-- A run exists and ends, for every rulebook, every class and every export: there are a text and a verdict to which it leads. It rests on that there is an answer to every
-- rulebook, class and header, and that the calls of `strip` end.
-- Assumes nothing.
use Rattle.std.specs.Prelude.{Result, Ok, Err}
use Rattle.std.proofs.Common.{◌≡◌, ℕ, zero, suc, ◌+◌, ◌<◌, ◌≤◌, Bool, false, List, [], ◌∷◌, length, take, sym, refl, ap, subst, append-nil, arith}
use Rattle.refusals.specs.Sizes.{most_text}
use Rattle.records.specs.Rows.{most_fields, most_bytes, line_end}
use Rattle.assign.proofs.Answered as assigned
use Rattle.assign.proofs.Labelled.{labelled_right, levels_in_range}
use Rattle.exports.specs.Text.{Verdict, refused}
use Rattle.columns.specs.Columns.{said_more}
use Rattle.columns.specs.Reader.{said_reader, reader_of}
use Rattle.columns.proofs.Answered.{ColumnsAnswered, columns_answered}
use Rattle.columns.proofs.Answered as header
use Rattle.stripping.specs.Calls.{all_of, none_to_come}
use Rattle.stripping.proofs.Ends.{calls_end}
use Rattle.stripping.proofs.Reading.{left_to_read, read_fits, read_less, some_read}
use Rattle.strip.specs.Runs.{LentRoom, Opened, Opens, OpenedSays, by_book, by_class, by_header, LeftOf, Runs, waits, strips, refuses}
use Rattle.strip.proofs.Runs.{runs_leave}
use Rattle.refusals.specs.declared.Refusal.{Refusal}
use Rattle.classes.specs.declared.Class.{Class}

-- A text and a verdict to which a run leads.
abbrev SomeRun : LentRoom → List ℕ → List ℕ → List ℕ → List (List ℕ) → Type 0
SomeRun room book class held pieces = (text : List ℕ) × ((v : Verdict) × Runs room book class held pieces text v)

module _ {room : LentRoom} (fields : most_fields ≤ length room.columns) where
  -- The book is labelled and the class is read.
  module _ {book class : List ℕ} {o : Opened} (opens : Opens room book class o) where
    asked : (held : List ℕ) (last : Bool) → ColumnsAnswered (OpenedSays o held last room.columns) held last
    asked held last =
        let x = labelled_right opens.assigned in
        columns_answered x.items x.room (levels_in_range x) o.reader held last room.columns

    -- How it goes on from a text in which the header does not end.
    abbrev Waiting : List ℕ → List (List ℕ) → Type 0
    Waiting held pieces =
        (after : List Bool) → OpenedSays o held (none_to_come pieces) room.columns said_more after → none_to_come pieces ≡ false → length held < most_bytes + line_end
        → SomeRun room book class held pieces

    one_question : (held : List ℕ) (pieces : List (List ℕ)) → length held ≤ most_text → Waiting held pieces → SomeRun room book class held pieces
    one_question held pieces short on = by (asked held (none_to_come pieces))
      where
        by : ColumnsAnswered (OpenedSays o held (none_to_come pieces) room.columns) held (none_to_come pieces) → SomeRun room book class held pieces
        by (header.refuses_export r p) = ([], (refused r, refuses (by_header opens fields p)))
        by (header.needs_more {after} p e h) = on after p e h
        by (header.knows_columns {k} {after} p few) =
            let calls = calls_end (take k after) few 1 held pieces short in
            (_, (_, strips (record { opened = o; opens = opens; count = k; after = after; says = p; is = refl }) calls.1.1))

    -- A question and a read; and read after read, of which there are at most f.
    one_read : (pieces : List (List ℕ))
        → ((pieces' : List (List ℕ)) → left_to_read pieces' < left_to_read pieces → (held : List ℕ) → length held ≤ most_text → SomeRun room book class held pieces')
        → (held : List ℕ) → length held ≤ most_text → SomeRun room book class held pieces
    one_read [] on held short = one_question held [] short (λ after p e h. let z : ◌≡◌ {A = ℕ} 0 1 = cc in absurd (omega arith))
    one_read (piece ∷ pieces) on held short =
        one_question held (piece ∷ pieces) short
        (λ after p e h.
        let next = some_read held piece pieces (omega arith) in
        let rest = on next.to_come (read_less (omega arith) next.read) next.holds (read_fits next.read) in
        (_, (_, waits opens p next.read rest.1.1)))

    opened_ends : (f : ℕ) (pieces : List (List ℕ)) → left_to_read pieces ≤ f → (held : List ℕ) → length held ≤ most_text → SomeRun room book class held pieces
    opened_ends zero pieces small = one_read pieces (λ pieces' less. absurd (omega arith))
    opened_ends (suc f) pieces small = one_read pieces (λ pieces' less. opened_ends f pieces' (omega arith))

  -- Whatever the book and the class are, and whatever pieces an export comes in, there is a run on them. A run is a finite derivation, which is what ending means. Where
  -- the lent room is too short for the book's items or labels, it is the run that is refused for that.
  pub run_ends : (book class : List ℕ) (pieces : List (List ℕ)) → (text : List ℕ) × ((v : Verdict) × Runs room book class [] pieces text v)
  run_ends book class pieces = by_answer (assigned.assign_answered book room.labelled)
    where
      by_answer : assigned.AssignAnswered book room.labelled → SomeRun room book class [] pieces
      by_answer (assigned.refuses_book r p) = ([], (refused r, refuses (by_book p)))
      by_answer (assigned.labels_book {h} {after} p) = by_reader (reader_of class) refl
        where
          by_reader : (r : Result Class Refusal) → reader_of class ≡ r → SomeRun room book class [] pieces
          by_reader (Err r) e = ([], (refused r, refuses (by_class p (record { answer = ap said_reader (sym e) }))))
          by_reader (Ok c) e =
              opened_ends {o = record { head = h; labels = after; reader = c }} (record { assigned = p; known = record { answer = ap said_reader (sym e) } })
              (left_to_read pieces) pieces (omega arith) [] (omega arith)

  -- So there is one on every export, and something is left of it.
  pub every_export_runs : (book class export : List ℕ)
      → (pieces : List (List ℕ)) × ((all_of pieces ≡ export) × ((text : List ℕ) × ((v : Verdict) × Runs room book class [] pieces text v)))
  unfolding all_of
  every_export_runs book class export = (export ∷ [], (append-nil export, run_ends book class (export ∷ [])))

  pub left_exists : (book class export : List ℕ) → (text : List ℕ) × ((v : Verdict) × LeftOf room book class export text v)
  left_exists book class export =
      let run = every_export_runs book class export in
      let out = run.1.1 in
      (out.0, (out.1.0, subst (λ (x : List ℕ). LeftOf room book class x out.0 out.1.0) run.1.0 (runs_leave out.1.1)))
