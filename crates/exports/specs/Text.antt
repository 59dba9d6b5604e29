-- What is left of an export for a reader: the text, and where the run is refused.
-- Assumes nothing.
use Rattle.std.specs.Prelude.{◌≡◌, Bool, true, cond, List, [], ◌∷◌, ◌++◌, ℕ, ◌+◌, ◌<◌, length, get_or}
use Rattle.scans.specs.Ascii.{comma, cr, lf}
use Rattle.refusals.specs.declared.Fault.{Fault}
use Rattle.refusals.specs.declared.Refusal.{Refusal}
use Rattle.exports.specs.Rows.{taken}

-- Of each record the columns that are kept, in order.
unfoldable pub kept_of : List Bool → List (List ℕ) → List (List ℕ)
kept_of [] fs = []
kept_of (k ∷ ks) [] = []
kept_of (k ∷ ks) (f ∷ fs) = cond k (f ∷ kept_of ks fs) (kept_of ks fs)

-- Fields "with commas between them".
unfoldable pub commaed : List (List ℕ) → List ℕ
commaed [] = []
commaed (f ∷ fs) = comma ∷ f ++ commaed fs

unfoldable pub with_commas : List (List ℕ) → List ℕ
with_commas [] = []
with_commas (f ∷ fs) = f ++ commaed fs

-- "Each record written ends with CRLF (alone, where no column is kept)."
abbrev pub record_line : List Bool → List (List ℕ) → List ℕ
record_line kept fs = with_commas (kept_of kept fs) ++ cr ∷ lf ∷ []

unfoldable pub record_lines : List Bool → List (List (List ℕ)) → List ℕ
record_lines kept [] = []
record_lines kept (fs ∷ rows) = record_line kept fs ++ record_lines kept rows

-- What is said of an export: it is accepted, or it is refused.
pub data Verdict : Type 0 where
  accepted : Verdict
  refused : Refusal → Verdict

-- What is written, and what is said.
pub record Outcome : Type 0 where
  pub text : List ℕ
  pub verdict : Verdict

-- "16 CSV_SYNTAX at the record".
abbrev pub bad_record : ℕ → Verdict
bad_record number = refused (record { fault = Fault.CsvSyntax; place = number })

-- The records of an export from the record of this number on, stripped to the columns that are kept. "A bad record stops the run, none of it
-- written"; "records before it stand".
unfoldable pub stripped_from : List Bool → ℕ → List ℕ → Outcome
stripped_from kept number l = record {
  text = record_lines kept (taken true (length kept) l).rows;
  verdict = cond (taken true (length kept) l).faulty (bad_record (number + length (taken true (length kept) l).rows)) accepted;
}

-- The records of two exports "differ only in columns held back": each export has its own columns that are kept, both have as many records, and the kept fields
-- of each record are the same bytes, quotes among them. So a column that is held back may stand elsewhere or be missing.
pub record HeldBackApart (kept kept_too : List Bool) (a b : List (List (List ℕ))) : Type 0 where
  pub count : length a ≡ length b
  pub same : (r : ℕ) → r < length a → kept_of kept (get_or a r []) ≡ kept_of kept_too (get_or b r [])
