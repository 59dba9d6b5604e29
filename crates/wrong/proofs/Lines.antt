-- Wrong answers of `lines`.
-- Assumes nothing.
use mathlib.Core.Path.{◌≡◌, ap}
use mathlib.Core.List.{List, [], ◌∷◌, ◌++◌}
use Prim.Native.Nat.{ℕ}
use native.Mathlib.Omega.{arith}
use lib.ListN.{drop, replicate}
use Rattle.std.specs.Prelude.{Option, Some, None}
use Rattle.classes.specs.Class.{lowest}
use Rattle.scans.specs.Bytes.{name_byte, run_len}
use Rattle.keys.specs.Keys.{key_text, starts_with, key_at}
use Rattle.keys.specs.declared.Key.{Key}
use Rattle.tokens.specs.Tokens.{name_of_run}
use Rattle.lines.specs.Lines.{line_at}
use Rattle.lines.specs.Values.{with_class}
use Rattle.lines.specs.declared.value.Value.{Value}
use Rattle.lines.specs.declared.Line.{Line}

-- A line with its key, the length of the key and its value.
abbrev found : Key → ℕ → Value → Option Line
found k n v = Some (record { key = k; from = n; value = v })

-- The line "cap=a+b:0/0000000000000000".
abbrev cap_of_two : List ℕ
cap_of_two = key_text Key.Cap ++ 97 ∷ 43 ∷ 98 ∷ 58 ∷ 48 ∷ 47 ∷ replicate 16 48 ++ 10 ∷ []

pub read_line_finds_a_cap_of_two_names
    : found Key.Cap 4 (record { names = 2; left = 3; right = 0; class = lowest; count = 0; len = 22 }) ≡ line_at (drop 0 cap_of_two) → ⊥
unfolding key_at starts_with with_class name_of_run run_len name_byte
read_line_finds_a_cap_of_two_names e =
    let f : found Key.Cap 4 (record { names = 2; left = 3; right = 0; class = lowest; count = 0; len = 22 }) ≡ None = e in
    let z : ◌≡◌ {A = ℕ} 0 1 = cc in omega arith

-- The line "item=abc", and the value of it.
abbrev item : List ℕ
item = key_text Key.Item ++ 97 ∷ 98 ∷ 99 ∷ 10 ∷ []

abbrev abc : Value
abc = record { names = 1; left = 3; right = 0; class = lowest; count = 0; len = 3 }

abbrev from_of : Option Line → ℕ
from_of (Some x) = x.from
from_of None = 0

pub read_line_has_the_length_of_the_value_for_that_of_the_key : found Key.Item 3 abc ≡ line_at (drop 0 item) → ⊥
unfolding key_at starts_with name_of_run run_len name_byte
read_line_has_the_length_of_the_value_for_that_of_the_key e = let z : ◌≡◌ {A = ℕ} 3 5 = ap from_of e in omega arith

-- The same line without its LF.
pub read_line_finds_a_line_without_lf : found Key.Item 5 abc ≡ line_at (drop 0 (key_text Key.Item ++ 97 ∷ 98 ∷ 99 ∷ [])) → ⊥
unfolding key_at starts_with name_of_run run_len name_byte
read_line_finds_a_line_without_lf e = let f : found Key.Item 5 abc ≡ None = e in let z : ◌≡◌ {A = ℕ} 0 1 = cc in omega arith
