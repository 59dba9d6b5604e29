-- Wrong answers of `refusals`.
-- Assumes nothing.
use mathlib.Core.Path.{◌≡◌, ap}
use Prim.Native.Nat.{ℕ}
use native.Mathlib.Omega.{arith}
use Rattle.refusals.specs.Numbers.{fault_number}
use Rattle.refusals.specs.declared.Fault.{Fault}
use Rattle.refusals.specs.declared.Refusal.{Refusal}
use Rattle.refusals.specs.Said.{refusal_at}

pub fault_number_of_a_name_twice_is_6 : 6 ≡ fault_number Fault.NameTwice → ⊥
fault_number_of_a_name_twice_is_6 e = let z : ◌≡◌ {A = ℕ} 6 5 = e in omega arith

pub fault_number_of_no_such_item_is_5 : 5 ≡ fault_number Fault.NoSuchItem → ⊥
fault_number_of_no_such_item_is_5 e = let z : ◌≡◌ {A = ℕ} 5 6 = e in omega arith

-- The numbers of stripping do not follow those of rulebooks.
pub fault_number_of_csv_syntax_is_13 : 13 ≡ fault_number Fault.CsvSyntax → ⊥
fault_number_of_csv_syntax_is_13 e = let z : ◌≡◌ {A = ℕ} 13 16 = e in omega arith

pub at_is_at_the_line_before : refusal_at Fault.Syntax 2 ≡ refusal_at Fault.Syntax 3 → ⊥
at_is_at_the_line_before e = let z : ◌≡◌ {A = ℕ} 2 3 = ap (λ (r : Refusal). r.place) e in omega arith
