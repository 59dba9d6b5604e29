-- A rule of a table is known by its words, and made of them.
-- Assumes nothing.
use mathlib.Core.Path.{◌≡◌}
use mathlib.Core.List.{List, [], ◌∷◌}
use Prim.Native.Nat.{ℕ, ◌<◌}
use native.Mathlib.Omega.{arith}
use Rattle.classes.specs.Class.{class_of}
use Rattle.classes.specs.declared.Class.{Class}
use Rattle.rules.specs.Table.{rule_words, word_at, rule_at}

-- Rules of the same words are the same.
pub rule_by_words : (w u : List ℕ) (r : ℕ) → ((k : ℕ) → k < rule_words → word_at w r k ≡ word_at u r k) → rule_at w r ≡ rule_at u r
unfolding rule_at
rule_by_words w u r h =
    rw (
      h 0 (omega arith),
      h 1 (omega arith),
      h 2 (omega arith),
      h 3 (omega arith),
      h 4 (omega arith),
      h 5 (omega arith),
      h 6 (omega arith),
      h 7 (omega arith),
      h 8 (omega arith),
      h 9 (omega arith),
      h 10 (omega arith),
      h 11 (omega arith),
      h 12 (omega arith),
    )

-- A record of the words is the rule.
pub rule_made : (t : List ℕ) (r : ℕ) {kind count a b c d e f g h right level marks : ℕ} {class : Class} → kind ≡ word_at t r 0 → count ≡ word_at t r 1
    → a ≡ word_at t r 2 → b ≡ word_at t r 3 → c ≡ word_at t r 4 → d ≡ word_at t r 5 → e ≡ word_at t r 6 → f ≡ word_at t r 7 → g ≡ word_at t r 8 → h ≡ word_at t r 9
    → right ≡ word_at t r 10 → class ≡ class_of level marks → level ≡ word_at t r 11 → marks ≡ word_at t r 12
    → record { kind = kind; count = count; left = a ∷ b ∷ c ∷ d ∷ e ∷ f ∷ g ∷ h ∷ []; right = right; class = class } ≡ rule_at t r
unfolding rule_at
rule_made t r w0 w1 w2 w3 w4 w5 w6 w7 w8 w9 w10 made w11 w12 = rw (w0, w1, w2, w3, w4, w5, w6, w7, w8, w9, w10, made, w11, w12)
