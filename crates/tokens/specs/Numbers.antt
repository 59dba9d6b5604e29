-- Numbers in digits, of base 10 or 16: the value of digits, and the digits of a value.
-- Assumes nothing.
use Rattle.std.specs.Prelude.{cond, List, [], ◌∷◌, ◌++◌, ℕ, zero, suc, ◌+◌, ◌-◌, ◌*◌, ◌/◌, ◌%◌, ltb, leb}
use Rattle.scans.specs.Ascii.{digit0, digit9, lower_a}

-- What the byte of a letter a-f is more than its worth, as `digit0` is for a digit 0-9: a is worth 10.
abbrev pub letter0 : ℕ
letter0 = lower_a - 10

-- What a digit is worth.
unfoldable pub digit_value : ℕ → ℕ
digit_value b = cond (leb b digit9) (b - digit0) (b - letter0)

-- The digit worth d, for d below 16, in lower case.
unfoldable pub digit : ℕ → ℕ
digit d = cond (ltb d 10) (digit0 + d) (letter0 + d)

-- The value of digits that follow others worth v, and the value of digits.
unfoldable pub value_after : ℕ → ℕ → List ℕ → ℕ
value_after base v [] = v
value_after base v (b ∷ l) = value_after base (v * base + digit_value b) l

abbrev pub value_of : ℕ → List ℕ → ℕ
value_of base l = value_after base 0 l

-- The lowest k digits of n, highest first.
unfoldable pub digits_of : ℕ → ℕ → ℕ → List ℕ
digits_of base zero n = []
digits_of base (suc k) n = digits_of base k (n / base) ++ (digit (n % base) ∷ [])

-- "COUNT is 1 to 5 digits".
abbrev pub count_digits : ℕ
count_digits = 5

-- How many decimal digits n has with no leading zero, at most those of a count: of a greater number so many, the lowest, are written.
unfoldable pub decimal_len : ℕ → ℕ
decimal_len n = cond (ltb n 10) 1 (cond (ltb n 100) 2 (cond (ltb n 1000) 3 (cond (ltb n 10000) 4 count_digits)))

abbrev pub decimal_of : ℕ → List ℕ
decimal_of n = digits_of 10 (decimal_len n) n
