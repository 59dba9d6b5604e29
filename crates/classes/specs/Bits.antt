-- The bits of a number, the number made of given bits, and the lowest bit that is set.
-- Assumes nothing.
use Rattle.std.specs.Prelude.{◌≡◌, ℕ, zero, suc, ◌+◌, ◌*◌, ◌^◌, ◌/◌, ◌%◌, ◌≤◌, ◌<◌}

-- Bit k of m, the bit worth 2^k: 0 or 1.
unfoldable pub bit : ℕ → ℕ → ℕ
bit k m = m / 2 ^ k % 2

-- The number whose lowest n bits are f 0, f 1, .. and that has no other bit.
unfoldable pub word : ℕ → (ℕ → ℕ) → ℕ
word zero f = 0
word (suc n) f = f 0 + 2 * word n (λ k. f (suc k))

-- k is the number of m's lowest bit that is set, or n where none of the lowest n is.
pub record LowestOne (n m k : ℕ) : Type 0 where
  pub within : k ≤ n
  pub zeros : (j : ℕ) → j < k → bit j m ≡ 0
  pub one : k < n → bit k m ≡ 1
