-- Numbers in digits: the value of the digits of a number is the number, and the digits of the value of digits are those digits. They rest on
-- division with a rest, by induction over the digits, once for both bases.
-- Assumes nothing.
use mathlib.Core.Path.{◌≡◌, refl, sym, ap, ◌∙◌}
use mathlib.Core.Bool.{Bool, true, false, cond, ◌&&◌, ◌||◌}
use mathlib.Core.List.{List, [], ◌∷◌, ◌++◌, append_assoc, append-nil}
use mathlib.Core.Logic.{◌⊎◌, inl, inr, ⊎_elim}
use Prim.Native.Nat.{ℕ, zero, suc, ◌+◌, ◌-◌, ◌*◌, ◌/◌, ◌%◌, ◌^◌, ◌≤◌, ◌<◌}
use native.Mathlib.Nat.{add-zero, zero-add, add-suc, suc-add, mul-one, one-mul, mul_assoc, le_refl, le_trans, not-le_of_lt, le-add_right, mul-le-mul_right, pow-zero, pow-suc, pow-succ', mod-lt, div-add-mod', div-lt_iff_lt-mul}
use native.Mathlib.Decide.{dec_lt}
use native.Mathlib.Omega.{arith}
use lib.Arith.{digits_lt, digits_div, digits_mod}
use lib.Dec.{leb, ltb}
use lib.ListN.{length, length-append}
use borrow.Author.Tests.{le-leb, lt-leb, lt-ltb, le-ltb, leb-true}
use Rattle.laws.proofs.Bools.{and_left, and_right}
use Rattle.scans.specs.Ascii.{digit0, digit9, lower_a, lower_f}
use Rattle.scans.specs.Bytes.{byte_at, decimal_byte, hex_byte, run_len}
use Rattle.scans.proofs.Runs.{run_append, all_head, all_tail}
use Rattle.tokens.specs.Numbers.{letter0, digit_value, digit, value_after, value_of, digits_of, count_digits, decimal_len}

-- The bytes of a kind are the digits of a base: each has a value below the base and is the digit of that value, and each number below the base
-- has a digit.
pub record Base (base : ℕ) (kind : ℕ → Bool) : Type 0 where
  pub least : 0 < base
  pub most : base ≤ 16
  pub small : (b : ℕ) → kind b ≡ true → digit_value b < base
  pub back : (b : ℕ) → kind b ≡ true → digit (digit_value b) ≡ b
  pub forth : (d : ℕ) → d < base → digit_value (digit d) ≡ d
  pub spelled : (d : ℕ) → d < base → kind (digit d) ≡ true

pub low_value : (b : ℕ) → b ≤ digit9 → digit_value b ≡ b - digit0
unfolding digit_value
low_value b h = rw (le-leb b digit9 h)

pub high_value : (b : ℕ) → digit9 < b → digit_value b ≡ b - letter0
unfolding digit_value
high_value b h = rw (lt-leb b digit9 h)

pub low_digit : (d : ℕ) → d < 10 → digit d ≡ digit0 + d
unfolding digit
low_digit d h = rw (lt-ltb d 10 h)

pub high_digit : (d : ℕ) → 10 ≤ d → digit d ≡ letter0 + d
unfolding digit
high_digit d h = rw (le-ltb d 10 h)

record LowByte (b : ℕ) : Type 0 where
  least : digit0 ≤ b
  most : b ≤ digit9

record HighByte (b : ℕ) : Type 0 where
  least : lower_a ≤ b
  most : b ≤ lower_f

decimal_low : (b : ℕ) → decimal_byte b ≡ true → LowByte b
unfolding decimal_byte
decimal_low b e = record { least = leb-true digit0 b (and_left _ _ e); most = leb-true b digit9 (and_right (leb digit0 b) _ e) }

low_small : {b : ℕ} → LowByte b → digit_value b < 10
low_small {b} h = rw (low_value b h.most) (omega arith)

low_back : {b : ℕ} → LowByte b → digit (digit_value b) ≡ b
low_back {b} h = rw (low_value b h.most, low_digit (b - digit0) (omega arith)) (omega arith)

hex_cases : (b : ℕ) → hex_byte b ≡ true → LowByte b ⊎ HighByte b
unfolding hex_byte
hex_cases b e = cases (leb digit0 b && leb b digit9) refl e
  where
    cases : (t : Bool) → (leb digit0 b && leb b digit9) ≡ t → (t || leb lower_a b && leb b lower_f) ≡ true → LowByte b ⊎ HighByte b
    cases true d f = inl (record { least = leb-true digit0 b (and_left _ _ d); most = leb-true b digit9 (and_right (leb digit0 b) _ d) })
    cases false d f = inr (record { least = leb-true lower_a b (and_left _ _ f); most = leb-true b lower_f (and_right (leb lower_a b) _ f) })

high_small : {b : ℕ} → HighByte b → digit_value b < 16
high_small {b} h = rw (high_value b (omega arith)) (omega arith)

high_back : {b : ℕ} → HighByte b → digit (digit_value b) ≡ b
high_back {b} h = rw (high_value b (omega arith), high_digit (b - letter0) (omega arith)) (omega arith)

low_forth : (d : ℕ) → d < 10 → digit_value (digit d) ≡ d
low_forth d h = rw (low_digit d h, low_value (digit0 + d) (omega arith)) (omega arith)

low_spelled : (d : ℕ) → d < 10 → decimal_byte (digit d) ≡ true
unfolding decimal_byte
low_spelled d h = rw (low_digit d h, le-leb digit0 (digit0 + d) (omega arith), le-leb (digit0 + d) digit9 (omega arith))

pub decimal : Base 10 decimal_byte
decimal = record {
  least = omega arith;
  most = omega arith;
  small = λ b e. low_small (decimal_low b e);
  back = λ b e. low_back (decimal_low b e);
  forth = low_forth;
  spelled = low_spelled;
}

pub hex : Base 16 hex_byte
unfolding hex_byte
hex = record {
  least = omega arith;
  most = omega arith;
  small = λ b e. ⊎_elim (λ h. omega (arith, low_small h)) high_small (hex_cases b e);
  back = λ b e. ⊎_elim low_back high_back (hex_cases b e);
  forth = λ d h. forth d h (dec_lt d 10);
  spelled = λ d h. spelled d h (dec_lt d 10);
}
  where
    forth : (d : ℕ) → d < 16 → Dec (d < 10) → digit_value (digit d) ≡ d
    forth d h (yes l) = low_forth d l
    forth d h (no l) = rw (high_digit d (omega arith), high_value (letter0 + d) (omega arith)) (omega arith)

    spelled : (d : ℕ) → d < 16 → Dec (d < 10) → (leb digit0 (digit d) && leb (digit d) digit9 || leb lower_a (digit d) && leb (digit d) lower_f) ≡ true
    spelled d h (yes l) = rw (low_digit d l, le-leb digit0 (digit0 + d) (omega arith), le-leb (digit0 + d) digit9 (omega arith))
    spelled d h (no l) =
        rw (
          high_digit d (omega arith),
          lt-leb (letter0 + d) digit9 (omega arith),
          le-leb lower_a (letter0 + d) (omega arith),
          le-leb (letter0 + d) lower_f (omega arith),
          le-leb digit0 (letter0 + d) (omega arith),
        )

-- The value of digits one after the other.
pub value_append : (base v : ℕ) (l r : List ℕ) → value_after base v (l ++ r) ≡ value_after base (value_after base v l) r
unfolding value_after
value_append base v [] r = refl
value_append base v (b ∷ l) r = value_append base (v * base + digit_value b) l r

pub digits_length : (base k n : ℕ) → length (digits_of base k n) ≡ k
unfolding digits_of
digits_length base zero n = refl
digits_length base (suc k) n = rw length-append (omega (arith, digits_length base k (n / base)))

module _ {base : ℕ} {kind : ℕ → Bool} (digits : Base base kind) where
  pub digits_run : (k n : ℕ) → run_len kind (digits_of base k n) ≡ k
  unfolding digits_of run_len
  digits_run zero n = refl
  digits_run (suc k) n =
      rw (
        run_append kind (digits_of base k (n / base)) (digit (n % base) ∷ []) (digits_run k (n / base) ∙ sym (digits_length base k (n / base))),
        digits.spelled (n % base) (mod-lt n digits.least),
      )
      (omega (arith, digits_length base k (n / base)))

  -- The value of the digits of a number.
  pub value_digits : (k n : ℕ) → n < base ^ k → value_of base (digits_of base k n) ≡ n
  unfolding digits_of value_after
  value_digits zero n h = omega (arith, pow-zero base)
  value_digits (suc k) n h =
      rw (
        value_append,
        value_digits k (n / base) ((div-lt_iff_lt-mul digits.least).1 (rw (← pow-suc base k) h)),
        digits.forth (n % base) (mod-lt n digits.least),
      )
      (div-add-mod' n base)

  -- The digits of the value of digits.
  digits_after : (l : List ℕ) (j v : ℕ) → run_len kind l ≡ length l → digits_of base (j + length l) (value_after base v l) ≡ digits_of base j v ++ l
  unfolding digits_of value_after
  digits_after [] j v e = rw add-zero (sym (append-nil (digits_of base j v)))
  digits_after (b ∷ l) j v e =
      let small : digit_value b < base = digits.small b (all_head kind b l e) in
      let next : j + suc (length l) ≡ suc j + length l = omega arith in
      ap (λ (k : ℕ). digits_of base k (value_after base (v * base + digit_value b) l)) next
      ∙ digits_after l (suc j) (v * base + digit_value b) (all_tail kind b l e)
      ∙ rw (digits_div v small, digits_mod v small, digits.back b (all_head kind b l e)) (append_assoc (digits_of base j v) (b ∷ []) l)

  pub digits_value : (l : List ℕ) → run_len kind l ≡ length l → digits_of base (length l) (value_of base l) ≡ l
  unfolding digits_of
  digits_value l e = ap (λ (k : ℕ). digits_of base k (value_of base l)) (sym (zero-add (length l))) ∙ digits_after l 0 0 e

  -- How great the value of digits is.
  value_below : (l : List ℕ) (j v : ℕ) → run_len kind l ≡ length l → v < base ^ j → value_after base v l < base ^ (j + length l)
  unfolding value_after
  value_below [] j v e h = rw add-zero h
  value_below (b ∷ l) j v e h =
      rw (add-suc, ← suc-add)
      (value_below l (suc j) (v * base + digit_value b) (all_tail kind b l e)
      (rw pow-suc (digits_lt h (digits.small b (all_head kind b l e)))))

  pub value_fits : (l : List ℕ) → run_len kind l ≡ length l → value_of base l < base ^ length l
  value_fits l e = rw (← zero-add (length l)) (value_below l 0 0 e (omega (arith, pow-zero base)))

value_above : (base : ℕ) (l : List ℕ) (v : ℕ) → v * base ^ length l ≤ value_after base v l
unfolding value_after
value_above base [] v = rw (pow-zero, mul-one) (le_refl v)
value_above base (b ∷ l) v =
    le_trans
    (rw (pow-succ', ← mul_assoc) (mul-le-mul_right (base ^ length l) (le-add_right (v * base) (digit_value b))))
    (value_above base l (v * base + digit_value b))

-- Where the first digit is no 0, the value has as many digits; where it is 0, fewer would do.
module _ {base : ℕ} {kind : ℕ → Bool} (digits : Base base kind) (b : ℕ) (l : List ℕ) (e : run_len kind (b ∷ l) ≡ suc (length l)) where
  pub value_high : (b ≡ digit0 → ⊥) → base ^ length l ≤ value_of base (b ∷ l)
  unfolding value_after
  value_high n =
      le_trans (rw one-mul at (mul-le-mul_right (base ^ length l) least)) (value_above base l (0 * base + digit_value b))
    where
      worth : (d : ℕ) → digit_value b ≡ d → 1 ≤ d
      worth zero z = absurd (n (sym (digits.back b (all_head kind b l e)) ∙ ap digit z ∙ low_digit 0 (omega arith)))
      worth (suc d) z = omega arith

      least : 1 ≤ 0 * base + digit_value b
      least = omega (arith, worth (digit_value b) refl)

  pub value_low : b ≡ digit0 → value_of base (b ∷ l) < base ^ length l
  unfolding value_after
  value_low z =
      let worth : digit_value b ≡ 0 = ap digit_value z ∙ low_value digit0 (omega arith) in
      rw (← zero-add (length l))
      (value_below digits l 0 (0 * base + digit_value b) (all_tail kind b l e) (omega (arith, pow-zero base)))

-- The same of digits at the front of which there is one.
module _ {base : ℕ} {kind : ℕ → Bool} (digits : Base base kind) where
  pub high_first : (l : List ℕ) → run_len kind l ≡ length l → 1 < length l → (byte_at l ≡ digit0 → ⊥) → base ^ (length l - 1) ≤ value_of base l
  high_first [] e h n = absurd (omega arith)
  high_first (b ∷ l) e h n = let d : suc (length l) - 1 ≡ length l = omega arith in rw d (value_high digits b l e n)

  pub first_high : (l : List ℕ) → run_len kind l ≡ length l → 1 < length l → base ^ (length l - 1) ≤ value_of base l → byte_at l ≡ digit0 → ⊥
  first_high [] e h g z = absurd (omega arith)
  first_high (b ∷ l) e h g z =
      let d : suc (length l) - 1 ≡ length l = omega arith in
      not-le_of_lt (value_low digits b l e z) (rw d at g)

-- How many decimal digits a number has: k, at most those of a count, where it is below 10^k and, for more than one digit, not below 10^(k - 1).
pub record DecimalLen (n k : ℕ) : Type 0 where
  pub least : 1 ≤ k
  pub most : k ≤ count_digits
  pub below : n < 10 ^ k
  pub above : 1 < k → 10 ^ (k - 1) ≤ n

pub decimal_len_lem : (k n : ℕ) → DecimalLen n k → decimal_len n ≡ k
unfolding decimal_len
decimal_len_lem zero n h = absurd (omega (arith, h.least))
decimal_len_lem (suc zero) n h = rw (lt-ltb n 10 h.below)
decimal_len_lem (suc (suc zero)) n h = rw (le-ltb n 10 (h.above (omega arith)), lt-ltb n 100 h.below)
decimal_len_lem (suc (suc (suc zero))) n h = let a = h.above (omega arith) in rw (le-ltb n 10 (omega arith), le-ltb n 100 a, lt-ltb n 1000 h.below)
decimal_len_lem (suc (suc (suc (suc zero)))) n h =
    let a = h.above (omega arith) in
    rw (le-ltb n 10 (omega arith), le-ltb n 100 (omega arith), le-ltb n 1000 a, lt-ltb n 10000 h.below)
decimal_len_lem (suc (suc (suc (suc (suc zero))))) n h =
    let a = h.above (omega arith) in
    rw (le-ltb n 10 (omega arith), le-ltb n 100 (omega arith), le-ltb n 1000 (omega arith), le-ltb n 10000 a)
decimal_len_lem (suc (suc (suc (suc (suc (suc k)))))) n h = absurd (omega (arith, h.most))

pub decimal_has : (n : ℕ) → n < 10 ^ count_digits → DecimalLen n (decimal_len n)
decimal_has n h = cases (dec_lt n 10) (dec_lt n 100) (dec_lt n 1000) (dec_lt n 10000)
  where
    has : (k : ℕ) → DecimalLen n k → DecimalLen n (decimal_len n)
    has k d = rw (decimal_len_lem k n d) d

    cases : Dec (n < 10) → Dec (n < 100) → Dec (n < 1000) → Dec (n < 10000) → DecimalLen n (decimal_len n)
    cases (yes a) b c d = has 1 (omega arith)
    cases (no a) (yes b) c d = has 2 (omega arith)
    cases (no a) (no b) (yes c) d = has 3 (omega arith)
    cases (no a) (no b) (no c) (yes d) = has 4 (omega arith)
    cases (no a) (no b) (no c) (no d) = has count_digits (omega arith)

-- Any number has from 1 to those of a count: of a greater one so many, the last, are put.
decimal_cases : (P : ℕ → Type 0) → P 1 → P 2 → P 3 → P 4 → P count_digits → (n : ℕ) → P (decimal_len n)
unfolding decimal_len
decimal_cases P p q r s t n = cases (ltb n 10) (ltb n 100) (ltb n 1000) (ltb n 10000)
  where
    cases : (a b c d : Bool) → P (cond a 1 (cond b 2 (cond c 3 (cond d 4 count_digits))))
    cases true b c d = p
    cases false true c d = q
    cases false false true d = r
    cases false false false true = s
    cases false false false false = t

pub decimal_most : (n : ℕ) → decimal_len n ≤ count_digits
decimal_most = decimal_cases (λ k. k ≤ count_digits) (omega arith) (omega arith) (omega arith) (omega arith) (omega arith)

pub decimal_short : (n : ℕ) → n < 100 → decimal_len n ≤ 2
decimal_short n h = cases (dec_lt n 10)
  where
    cases : Dec (n < 10) → decimal_len n ≤ 2
    cases (yes l) = omega (arith, decimal_len_lem 1 n (omega arith))
    cases (no l) = omega (arith, decimal_len_lem 2 n (omega arith))
