-- The laws of bits, each once over the bit's number k: what `&`, `|`, `^` and `!` do to bit k, that bits determine a number, the word of given
-- bits, and the lowest bit that is set. They rest on the library's laws of `bit_and`, `bit_or` and `bit_xor` and on halving, from the low end.
-- Assumes nothing.
use mathlib.Core.Path.{◌≡◌, refl, sym, ap, ◌∙◌}
use Prim.Native.Nat.{ℕ, zero, suc, ◌+◌, ◌-◌, ◌*◌, ◌^◌, ◌/◌, ◌%◌, ◌≤◌, ◌<◌, min, max, zero-le}
use native.Mathlib.Nat.{pow-suc, pow-succ', div-div-eq-div-mul, div-eq_of_lt, lt_of_lt_of_le, le_antisymm}
use native.Mathlib.Decide.{dec_le}
use native.Mathlib.Omega.{arith}
use lib.Bits.{bit_and, bit_or, bit_xor, differ, and_step, or_step, xor_step, and_shr, or_shr, xor_shr, and_lt, or_lt}
use lib.Pow.{pow_mono, pow_pos, ones_sub-lt}
use lib.Count.{count_trailing_zeros, under}
use Rattle.classes.specs.Bits.{bit, word, LowestOne}

-- A bit is 0 or 1. Bit 0 is the rest by 2, and bit k + 1 is bit k of the half.
pub bit_small : (k m : ℕ) → bit k m < 2
unfolding bit
bit_small k m = omega arith

pub bit_zero : (m : ℕ) → bit 0 m ≡ m % 2
unfolding bit
bit_zero m = omega arith

pub bit_suc : (k m : ℕ) → bit (suc k) m ≡ bit k (m / 2)
unfolding bit
bit_suc k m = rw (pow-succ', ← div-div-eq-div-mul)

-- The operations on words, bit by bit.
pub bit-bit_and : (k a b : ℕ) → bit k (bit_and a b) ≡ min (bit k a) (bit k b)
unfolding bit
bit-bit_and k a b = rw and_shr (omega (arith, and_step (a / 2 ^ k) (b / 2 ^ k)))

pub bit-bit_or : (k a b : ℕ) → bit k (bit_or a b) ≡ max (bit k a) (bit k b)
unfolding bit
bit-bit_or k a b = rw or_shr (omega (arith, or_step (a / 2 ^ k) (b / 2 ^ k)))

differ_small : (x y : ℕ) → x < 2 → y < 2 → differ x y < 2
differ_small zero y h g = g
differ_small (suc x) zero h g = h
differ_small (suc x) (suc y) h g = differ_small x y (omega arith) (omega arith)

pub bit-bit_xor : (k a b : ℕ) → bit k (bit_xor a b) ≡ differ (bit k a) (bit k b)
unfolding bit
bit-bit_xor k a b =
    rw xor_shr (omega (arith, xor_step (a / 2 ^ k) (b / 2 ^ k), differ_small _ _ (bit_small k a) (bit_small k b)))

pub bit_not : (n k a : ℕ) → k < n → a < 2 ^ n → bit k (2 ^ n - 1 - a) ≡ 1 - bit k a
bit_not zero k a h g = absurd (omega arith)
bit_not (suc n) zero a h g = simp bit_zero (omega (arith, pow-suc 2 n))
bit_not (suc n) (suc k) a h g =
    let half : (2 ^ suc n - 1 - a) / 2 ≡ 2 ^ n - 1 - a / 2 = omega (arith, pow-suc 2 n) in
    bit_suc k (2 ^ suc n - 1 - a) ∙ rw (half, bit_suc k a) (bit_not n k (a / 2) (omega arith) (omega (arith, pow-suc 2 n)))

-- A number below 2^n has no bit from n on, and its lowest n bits determine it.
pub bit_high : (n k a : ℕ) → a < 2 ^ n → n ≤ k → bit k a ≡ 0
unfolding bit
bit_high n k a h g = rw (div-eq_of_lt (lt_of_lt_of_le h (pow_mono g)))

pub bit_of_zero : (k : ℕ) → bit k 0 ≡ 0
bit_of_zero k = bit_high 0 k 0 (omega arith) zero-le

half_ext : (a b : ℕ) → bit 0 a ≡ bit 0 b → a / 2 ≡ b / 2 → a ≡ b
half_ext a b e r = omega (arith, bit_zero a, bit_zero b)

pub bit_ext : (n a b : ℕ) → a < 2 ^ n → b < 2 ^ n → ((k : ℕ) → k < n → bit k a ≡ bit k b) → a ≡ b
bit_ext zero a b h g e = omega arith
bit_ext (suc n) a b h g e =
    half_ext a b (e 0 (omega arith))
    (bit_ext n (a / 2) (b / 2) (omega (arith, pow-suc 2 n)) (omega (arith, pow-suc 2 n))
    (λ k l. sym (bit_suc k a) ∙ e (suc k) (omega arith) ∙ bit_suc k b))

-- The word of n given bits has those bits and is below 2^n.
pub bit_word : (n : ℕ) (f : ℕ → ℕ) → ((k : ℕ) → k < n → f k < 2) → (k : ℕ) → k < n → bit k (word n f) ≡ f k
unfolding word
bit_word zero f s k h = absurd (omega arith)
bit_word (suc n) f s zero h = bit_zero _ ∙ omega (arith, s 0 (omega arith))
bit_word (suc n) f s (suc k) h =
    let half : (f 0 + 2 * word n (λ k. f (suc k))) / 2 ≡ word n (λ k. f (suc k)) = omega (arith, s 0 (omega arith)) in
    bit_suc k _ ∙ rw half (bit_word n (λ k. f (suc k)) (λ j l. s (suc j) (omega arith)) k (omega arith))

pub word_lt : (n : ℕ) (f : ℕ → ℕ) → ((k : ℕ) → k < n → f k < 2) → word n f < 2 ^ n
unfolding word
word_lt zero f s = omega arith
word_lt (suc n) f s = omega (arith, pow-suc 2 n, s 0 (omega arith), word_lt n (λ k. f (suc k)) (λ j l. s (suc j) (omega arith)))

-- A number below 2^n is the word of its bits, and so are `|` and `&` of two.
pub word_bits : (n a : ℕ) (f : ℕ → ℕ) → a < 2 ^ n → ((k : ℕ) → k < n → bit k a ≡ f k) → a ≡ word n f
word_bits n a f h e =
    let small : (k : ℕ) → k < n → f k < 2 = λ k l. rw (← e k l) (bit_small k a) in
    bit_ext n a (word n f) h (word_lt n f small) (λ k l. e k l ∙ sym (bit_word n f small k l))

pub or_word : (n a b : ℕ) → a < 2 ^ n → b < 2 ^ n → bit_or a b ≡ word n (λ k. max (bit k a) (bit k b))
or_word n a b h g = word_bits n (bit_or a b) _ (or_lt n a b h g) (λ k l. bit-bit_or k a b)

pub and_word : (n a b : ℕ) → a < 2 ^ n → b < 2 ^ n → bit_and a b ≡ word n (λ k. min (bit k a) (bit k b))
and_word n a b h g = word_bits n (bit_and a b) _ (and_lt n a b h g) (λ k l. bit-bit_and k a b)

-- A word has every bit of another exactly if the other has no bit outside it.
pub bit_le : (k a b : ℕ) → (bit k a ≡ 1 → bit k b ≡ 1) → bit k a ≤ bit k b
bit_le k a b f = go (dec_le (bit k a) (bit k b))
  where
    go : Dec (bit k a ≤ bit k b) → bit k a ≤ bit k b
    go (yes l) = l
    go (no l) = omega (arith, bit_small k a, f (omega (arith, bit_small k a)))

module _ (n a b : ℕ) (h : a < 2 ^ n) (g : b < 2 ^ n) where
  bit_outside : (k : ℕ) → k < n → bit k (bit_and b (2 ^ n - 1 - a)) ≡ min (bit k b) (1 - bit k a)
  bit_outside k l = bit-bit_and k b (2 ^ n - 1 - a) ∙ rw (bit_not n k a l h)

  pub outside_none : bit_and b (2 ^ n - 1 - a) ≡ 0 → (k : ℕ) → k < n → bit k b ≡ 1 → bit k a ≡ 1
  outside_none e k l o = omega (arith, bit_small k a, bit_outside k l, ap (bit k) e, bit_of_zero k)

  pub none_outside : ((k : ℕ) → k < n → bit k b ≡ 1 → bit k a ≡ 1) → bit_and b (2 ^ n - 1 - a) ≡ 0
  none_outside f =
      bit_ext n _ 0 (and_lt n b (2 ^ n - 1 - a) g (ones_sub-lt n a)) (pow_pos n)
      (λ k l. bit_outside k l ∙ omega (arith, bit_small k b, bit_le k b a (f k l), bit_of_zero k))

-- The count of trailing zeros is the number of the lowest bit that is set, and there is one such number.
lowest_under : (n m t d : ℕ) → m % 2 ≡ d → LowestOne n (m / 2) t → LowestOne (suc n) m (under d t)
lowest_under n m t zero e l =
    record { within = omega arith; zeros = zeros; one = λ h. bit_suc t m ∙ l.one (omega arith) }
  where
    zeros : (j : ℕ) → j < suc t → bit j m ≡ 0
    zeros zero h = bit_zero m ∙ e
    zeros (suc j) h = bit_suc j m ∙ l.zeros j (omega arith)
lowest_under n m t (suc d) e l =
    record { within = zero-le; zeros = λ j h. absurd (omega arith); one = λ h. bit_zero m ∙ omega arith }

pub lowest_one : (n m : ℕ) → LowestOne n m (count_trailing_zeros n m)
unfolding count_trailing_zeros
lowest_one zero m = record { within = zero-le; zeros = λ j h. absurd (omega arith); one = λ h. absurd (omega arith) }
lowest_one (suc n) m = lowest_under n m (count_trailing_zeros n (m / 2)) (m % 2) refl (lowest_one n (m / 2))

lowest_le : {n m j k : ℕ} → LowestOne n m j → LowestOne n m k → k ≤ j
lowest_le {j = j} {k = k} h g = go (dec_le k j)
  where
    go : Dec (k ≤ j) → k ≤ j
    go (yes l) = l
    go (no l) = absurd (omega (arith, h.one (omega arith), g.zeros j (omega arith)))

pub lowest_one_unique : {n m j k : ℕ} → LowestOne n m j → LowestOne n m k → j ≡ k
lowest_one_unique h g = le_antisymm (lowest_le g h) (lowest_le h g)
