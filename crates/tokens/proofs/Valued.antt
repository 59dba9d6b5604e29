-- What the loop that values digits keeps from turn to turn: the value so far is that of the digits so far. It rests on the laws of powers.
-- Assumes nothing.
use mathlib.Core.Path.{◌≡◌, refl, ap, ◌∙◌}
use mathlib.Core.List.{List}
use Prim.Native.Nat.{ℕ, ◌+◌, ◌*◌, ◌^◌, ◌<◌}
use native.Mathlib.Nat.{le_trans, lt_of_lt_of_le, pow-zero, pow-suc, pow-le-pow_left, pow-le-pow_right}
use native.Mathlib.Numerals.{add-one}
use native.Mathlib.Omega.{arith}
use lib.Arith.{digits_lt}
use lib.ListN.{length, get_or, take}
use lib.Seq.{length-take-le, get_or-take}
use mir.Syntax.{w64}
use mir.Val.{Fits}
use Rattle.std.proofs.lemmas.List.{take_more}
use Rattle.tokens.specs.Numbers.{digit_value, value_after, value_of}
use Rattle.tokens.specs.Tokens.{mark_digits}
use Rattle.tokens.specs.InnerDigits.{Digits}
use Rattle.tokens.proofs.Values.{value_append}

-- v is the value of the first i digits.
pub record Valued (base : ℕ) (l : List ℕ) (v i : ℕ) : Type 0 where
  pub fits : v < base ^ i
  pub value : v ≡ value_of base (take i l)

pub valued_none : {base : ℕ} {l : List ℕ} → Valued base l 0 0
unfolding value_after
valued_none {base} = record { fits = omega (arith, pow-zero base); value = refl }

-- The loop goes over the first n bytes of m, which is l.
module _ {base : ℕ} {l : List ℕ} {n : ℕ} (d : Digits base l n) {v i : ℕ} (p : Valued base l v i) {m : List ℕ} (e : m ≡ l) (h : i < length (take n m)) where
  digit : ℕ
  digit = digit_value (get_or l i 0)

  here : i < n
  here = rw (e, length-take-le n l d.within) at h

  next_fits : v * base + digit < base ^ (i + 1)
  unfolding digit
  next_fits = rw (add-one, pow-suc) (digits_lt p.fits (d.small i here))

  room : v * base + digit < 2 ^ 64
  room =
      lt_of_lt_of_le next_fits
      (le_trans (pow-le-pow_left d.base_most (i + 1)) (pow-le-pow_right (omega arith) {i = i + 1} {j = mark_digits} (omega (arith, here, d.most))))

  pub valued_mul : Fits w64 (v * base)
  valued_mul = record { fits = omega (arith, room) }

  module _ {r : ℕ} (f : r ≡ digit_value (get_or (take n m) i 0)) where
    same : r ≡ digit
    unfolding digit
    same = f ∙ ap digit_value (rw (e, get_or-take n l i 0 here) refl)

    pub valued_add : Fits w64 (v * base + r)
    valued_add = rw same (record { fits = room })

    pub valued_more : Valued base l (v * base + r) (i + 1)
    unfolding value_after digit
    valued_more = rw same (record {
      fits = next_fits;
      value = rw (take_more l i 0 (omega (arith, here, d.within)), value_append, ← p.value) refl;
    })
