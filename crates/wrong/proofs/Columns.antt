-- Wrong answers of `columns`: of a class's text with no bytes, and of an export with no bytes, for a book without items.
-- Assumes nothing.
use Rattle.std.specs.Prelude.{Option, Some, None, Result, Ok, Err}
use mathlib.Core.Path.{◌≡◌, refl, ap}
use mathlib.Core.Bool.{Bool, true}
use mathlib.Core.List.{List, []}
use Prim.Native.Nat.{ℕ}
use native.Mathlib.Omega.{arith}
use Rattle.classes.specs.Class.{lowest}
use Rattle.refusals.specs.Numbers.{fault_number}
use Rattle.refusals.specs.declared.Fault.{Fault}
use Rattle.rules.specs.declared.Head.{Head}
use Rattle.scans.specs.Bytes.{decimal_byte, run_len}
use Rattle.tokens.specs.Tokens.{decimal_of_run, class_after}
use Rattle.columns.specs.Reader.{said_reader, ReaderSays}
use Rattle.columns.specs.Columns.{said_columns, ColumnsSays, headed, bad_header}
use Rattle.columns.proofs.Unique.{columns_unique}
use Rattle.refusals.specs.declared.Refusal.{Refusal}

pub no_bytes_are_the_lowest_class : ReaderSays [] (said_reader (Ok lowest)) → ⊥
unfolding class_after decimal_of_run run_len decimal_byte
no_bytes_are_the_lowest_class x =
    let f : said_reader (Ok lowest) ≡ said_reader (Err (record { fault = Fault.BadLabel; place = 0 })) = x.answer in
    let z : ◌≡◌ {A = ℕ} 0 1 = cc in
    omega arith

abbrev empty : Head
empty = record { items = 0; rules = 0 }

abbrev no_header : Result (Option ℕ) Refusal
no_header = Err (record { fault = Fault.CsvSyntax; place = 1 })

-- "No bytes at all is 16 at 1".
right : ColumnsSays [] empty [] [] lowest [] true [] (said_columns no_header) []
right =
    headed (record { size = omega arith; room = omega arith; names = λ i h. absurd (omega arith); distinct = λ j h. absurd (omega arith) })
    (record { for_levels = omega arith; for_marks = omega arith })
    (record { each = λ j h. absurd (omega arith) })
    (bad_header refl)

-- The number of a refusal.
abbrev number_of : Result (Option ℕ) Refusal → ℕ
number_of (Ok (Some n)) = 0
number_of (Ok None) = 0
number_of (Err r) = fault_number r.fault

pub kept_columns_waits_for_more_of_a_last_text : (d : List Bool) → ColumnsSays [] empty [] [] lowest [] true [] (said_columns (Ok None)) d → ⊥
kept_columns_waits_for_more_of_a_last_text d x = let e = (columns_unique {r = (Ok None)} {s = no_header} x right).answer in let z : ◌≡◌ {A = ℕ} 0 1 = cc in omega arith

pub kept_columns_blames_the_names_of_no_header : (d : List Bool)
    → ColumnsSays [] empty [] [] lowest [] true [] (said_columns (Err (record { fault = Fault.CsvHeader; place = 1 }))) d → ⊥
kept_columns_blames_the_names_of_no_header d x =
    let z : ◌≡◌ {A = ℕ} 17 16 = ap number_of (columns_unique {r = Err (record { fault = Fault.CsvHeader; place = 1 })} {s = no_header} x right).answer in
    omega arith
