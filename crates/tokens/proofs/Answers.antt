-- What the reading of a token rests on: the bytes of a run are digits, and a number that is read stands within the text.
-- Assumes nothing.
use mathlib.Core.Path.{◌≡◌, sym}
use mathlib.Core.Bool.{Bool}
use mathlib.Core.List.{List}
use Prim.Native.Nat.{ℕ, ◌+◌, ◌≤◌}
use native.Mathlib.Omega.{arith}
use lib.ListN.{length, get_or, drop, length-drop}
use Rattle.std.specs.Prelude.{Some}
use Rattle.scans.specs.Bytes.{decimal_byte, hex_byte, run_len}
use Rattle.scans.proofs.Runs.{run_le, run_at}
use Rattle.tokens.specs.Tokens.{decimal_at, level_digits, mark_digits}
use Rattle.tokens.specs.InnerDigits.{Digits}
use Rattle.tokens.specs.declared.Number.{Number}
use Rattle.tokens.proofs.Values.{Base, decimal, hex}
use Rattle.tokens.proofs.Tokens.{decimal_is_text}

run_digits : {base : ℕ} {kind : ℕ → Bool} → Base base kind → (l : List ℕ) (n : ℕ) → n ≤ run_len kind l → n ≤ mark_digits → Digits base l n
run_digits {kind = kind} d l n h g = record {
  base_most = d.most;
  most = g;
  within = omega (arith, run_le kind l);
  small = λ k i. d.small (get_or l k 0) (run_at kind l k (omega arith));
}

pub decimal_digits : (l : List ℕ) (n : ℕ) → n ≤ run_len decimal_byte l → n ≤ mark_digits → Digits 10 l n
decimal_digits = run_digits decimal

pub hex_digits : (l : List ℕ) (n : ℕ) → n ≤ run_len hex_byte l → n ≤ mark_digits → Digits 16 l n
hex_digits = run_digits hex

pub level_ends : (s : List ℕ) (at : ℕ) {x : Number} → Some x ≡ decimal_at level_digits (drop at s) → at + x.len ≤ length s
level_ends s at {x} e =
    let here = decimal_is_text level_digits (drop at s) x (omega arith) (sym e) in
    omega (arith, here.within, here.digits.least, length-drop at s)
