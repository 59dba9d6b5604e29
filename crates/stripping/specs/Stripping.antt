-- The promise of `strip`: the whole records at the front of a text, with only the columns that are kept.
-- Assumes nothing.
use Rattle.std.specs.Prelude.{◌≡◌, Bool, cond, ◌&&◌, List, [], ◌∷◌, ℕ, ltb, eqb, length, Result, Ok, Err}
use Rattle.laws.specs.Over.{over}
use Rattle.records.specs.Rows.{most_fields}
use Rattle.refusals.specs.Said.{Said, success, refused, refused_by, said_refusal}
use Rattle.refusals.specs.Sizes.{most_text}
use Rattle.refusals.specs.declared.Fault.{Fault}
use Rattle.refusals.specs.declared.Refusal.{Refusal}
use Rattle.exports.specs.Rows.{Taken, taken}
use Rattle.exports.specs.Text.{record_lines}
use Rattle.stripping.specs.declared.Cut.{Cut}

-- What an answer says: how many bytes were taken, how many were written, and of how many records; or a refusal.
abbrev pub said_cut : ℕ → ℕ → ℕ → Said
said_cut used len records = success 0 (used ∷ len ∷ records ∷ [])

abbrev pub said_stripped : Result Cut Refusal → Said
said_stripped (Ok c) = said_cut c.used c.len c.records
said_stripped (Err r) = said_refusal r

-- Of what was taken, with a lent buffer of `room` bytes and n to be written: 16 at the record where the first one is bad, "NO_ROOM | 0 | a lent output is
-- shorter than the answer", or what was cut.
abbrev pub answer_to : ℕ → ℕ → ℕ → Taken → Said
answer_to number room n t =
    cond (eqb (length t.rows) 0 && t.faulty) (refused_by Fault.CsvSyntax number)
    (cond (ltb room n) (refused_by Fault.NoRoom 0) (said_cut t.used n (length t.rows)))

-- What is written of the text l.
abbrev pub made_of : List ℕ → Bool → List Bool → List ℕ
made_of l last kept = record_lines kept (taken last (length kept) l).rows

-- "1 | TOO_LONG" for a text "over 32,768 bytes", "10 | BAD_TABLE" for more columns than a record has; then the records.
unfoldable pub strip_answer : List ℕ → Bool → List Bool → ℕ → ℕ → Said
strip_answer l last kept number room =
    cond (ltb most_text (length l)) (refused_by Fault.TooLong 0)
    (cond (ltb most_fields (length kept)) (refused_by Fault.BadTable 0)
    (answer_to number room (length (made_of l last kept)) (taken last (length kept) l)))

-- "A success writes from the front .. and leaves the rest of the buffer"; "Every refusal leaves each lent buffer untouched."
abbrev pub out_after : Said → List ℕ → List ℕ → List ℕ
out_after (success c values) x before = over before 0 x
out_after (refused number place) x before = before

-- The promise of `strip`: what is said of the text l, and that the buffer held `out` and now holds `out'`.
pub record StripSays (l : List ℕ) (last : Bool) (kept : List Bool) (number : ℕ) (out : List ℕ) (s : Said) (out' : List ℕ) : Type 0 where
  pub answer : s ≡ strip_answer l last kept number (length out)
  pub out_is : out' ≡ out_after s (made_of l last kept) out
