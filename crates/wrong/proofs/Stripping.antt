-- Wrong answers of `stripping`, for one column that is kept, and a text of one record, "a" and CRLF, from record 1 on.
-- Assumes nothing.
use Rattle.std.specs.Prelude.{Err}
use mathlib.Core.Path.{◌≡◌}
use mathlib.Core.Bool.{Bool, true, false}
use mathlib.Core.List.{List, [], ◌∷◌}
use Prim.Native.Nat.{ℕ}
use native.Mathlib.Omega.{arith}
use Rattle.refusals.specs.declared.Fault.{Fault}
use Rattle.records.specs.Fields.{plain_byte, after_cr, behind, scan}
use Rattle.records.specs.Rows.{row_of, record_at}
use Rattle.exports.specs.Rows.{taken_from}
use Rattle.exports.specs.Text.{kept_of, commaed, with_commas, record_lines, HeldBackApart}
use Rattle.stripping.specs.Stripping.{said_cut, said_stripped, strip_answer, StripSays}

abbrev kept : List Bool
kept = true ∷ []

abbrev text : List ℕ
text = 97 ∷ 13 ∷ 10 ∷ []

-- The line has room exactly.
pub strip_has_no_room_for_an_exact_line : (d : List ℕ)
    → StripSays text false kept 1 (0 ∷ 0 ∷ 0 ∷ []) (said_stripped (Err (record { fault = Fault.NoRoom; place = 0 }))) d → ⊥
unfolding strip_answer taken_from record_at row_of scan behind after_cr plain_byte record_lines with_commas commaed kept_of
strip_has_no_room_for_an_exact_line d x =
    let f : said_stripped (Err (record { fault = Fault.NoRoom; place = 0 })) ≡ said_cut 3 3 1 = x.answer in
    let z : ◌≡◌ {A = ℕ} 0 1 = cc in
    omega arith

-- "a" alone is no bad record while more may come.
pub strip_refuses_an_unfinished_record : (d : List ℕ)
    → StripSays (97 ∷ []) false kept 1 [] (said_stripped (Err (record { fault = Fault.CsvSyntax; place = 1 }))) d → ⊥
unfolding strip_answer taken_from record_at row_of scan behind after_cr plain_byte record_lines with_commas commaed kept_of
strip_refuses_an_unfinished_record d x =
    let f : said_stripped (Err (record { fault = Fault.CsvSyntax; place = 1 })) ≡ said_cut 0 0 0 = x.answer in
    let z : ◌≡◌ {A = ℕ} 0 1 = cc in
    omega arith

-- Exports that differ in a column that is kept do not "differ only in columns held back", nor do those of which one has a record more.
pub a_kept_field_differs : HeldBackApart kept kept (((97 ∷ []) ∷ []) ∷ []) (((98 ∷ []) ∷ []) ∷ []) → ⊥
unfolding kept_of
a_kept_field_differs x =
    let e : ◌≡◌ {A = List (List ℕ)} ((97 ∷ []) ∷ []) ((98 ∷ []) ∷ []) = x.same 0 (omega arith) in
    let z : ◌≡◌ {A = ℕ} 97 98 = cc in
    omega arith

pub a_record_is_missing : HeldBackApart kept kept (((97 ∷ []) ∷ []) ∷ []) [] → ⊥
a_record_is_missing x = omega (arith, x.count)
