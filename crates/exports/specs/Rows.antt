-- The records of an export, one after the other, as far as they are whole and good.
-- Assumes nothing.
use Rattle.std.specs.Prelude.{Bool, true, false, cond, List, [], ◌∷◌, ℕ, zero, suc, ◌+◌, eqb, length, drop}
use Rattle.records.specs.Rows.{Record, whole, more, bad, record_at}

-- "a field count unlike the header's" is bad.
abbrev pub fitting : ℕ → Record → Record
fitting columns (whole fs k) = cond (eqb (length fs) columns) (whole fs k) bad
fitting columns more = more
fitting columns bad = bad

-- The record with so many fields at the front of a text.
abbrev pub record_of : Bool → ℕ → List ℕ → Record
record_of last columns l = fitting columns (record_at last columns l)

-- The good records at the front of a text, the fields of each; how many bytes they are; and whether a bad one stands behind them.
pub record Taken : Type 0 where
  pub rows : List (List (List ℕ))
  pub used : ℕ
  pub faulty : Bool

-- No record is taken.
abbrev pub stopped : Bool → Taken
stopped faulty = record { rows = []; used = 0; faulty = faulty }

-- A record of k bytes before others.
abbrev pub on_top : List (List ℕ) → ℕ → Taken → Taken
on_top fs k t = record { rows = fs ∷ t.rows; used = k + t.used; faulty = t.faulty }

abbrev pub take_on : (ℕ → Taken) → Record → Taken
take_on rest (whole fs k) = on_top fs k (rest k)
take_on rest more = stopped false
take_on rest bad = stopped true

-- Record after record, until the text ends, "a bad record stops the run", or the text ends within a record. "A CRLF at the very end starts no
-- record". The text is no longer than the first number, and each record has a byte.
unfoldable pub taken_from : ℕ → Bool → ℕ → List ℕ → Taken
taken_from zero last columns l = stopped false
taken_from (suc f) last columns [] = stopped false
taken_from (suc f) last columns (b ∷ l) =
    take_on (λ k. taken_from f last columns (drop k (b ∷ l))) (record_of last columns (b ∷ l))

abbrev pub taken : Bool → ℕ → List ℕ → Taken
taken last columns l = taken_from (length l) last columns l
