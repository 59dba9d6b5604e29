-- What the loop that reads a left side keeps from turn to turn: the left side at the next place gives what is left of the whole one. It rests
-- on the laws of the left side and of places.
-- Assumes nothing.
use mathlib.Core.Path.{◌≡◌, sym, ap, ◌∙◌}
use mathlib.Core.List.{List}
use Prim.Native.Nat.{ℕ, ◌+◌, ◌-◌, ◌^◌, ◌≤◌, ◌<◌}
use native.Mathlib.Nat.{add_assoc}
use native.Mathlib.Omega.{arith}
use lib.ListN.{length, drop}
use lib.Seq.{drop-drop}
use mir.Syntax.{w64}
use mir.Val.{Fits}
use Rattle.std.specs.Prelude.{Option, Some, None}
use Rattle.scans.specs.Ascii.{plus}
use Rattle.scans.specs.Bytes.{byte_at}
use Rattle.scans.proofs.Places.{byte_inside}
use Rattle.tokens.specs.Tokens.{name_at}
use Rattle.lines.specs.declared.left.LeftSide.{LeftSide}
use Rattle.lines.specs.Left.{left_found, names_before, left_at}
use Rattle.lines.proofs.Sides.{Stands, name_stands, before_before, left_bad, left_last, left_more}

-- Names have been read from `at` to `place`.
pub record Passed (s : List ℕ) (at names place : ℕ) : Type 0 where
  pub past : at ≤ place
  pub few : names ≤ place - at
  pub within : at < place → place ≤ length s
  pub rest : left_at (drop at s) ≡ names_before names (place - at) (left_at (drop place s))

module _ {s : List ℕ} {at names place : ℕ} (p : Passed s at names place) where
  pub passed_bad : {r : Option LeftSide} → None ≡ name_at (drop place s) → r ≡ None → r ≡ left_at (drop at s)
  passed_bad e f = f ∙ sym (p.rest ∙ rw (left_bad (drop place s) (sym e)))

  module _ {n : ℕ} (e : Some n ≡ name_at (drop place s)) where
    here : Stands s place n
    here = name_stands s place n (sym e)

    pub passed_fits : length s < 2 ^ 64 → Fits w64 (place + n)
    passed_fits h = record { fits = omega (arith, here.within) }

    byte : byte_at (drop n (drop place s)) ≡ byte_at (drop (place + n) s)
    byte = ap byte_at (drop-drop n place s)

    module _ {b : ℕ} (g : b ≡ byte_at (drop (place + n) s)) where
      pub passed_last : (b ≡ plus → ⊥) → left_found (names + 1) (place + n - at) ≡ left_at (drop at s)
      passed_last h =
          sym (p.rest ∙ rw (left_last (drop place s) n (sym e) (λ z. h (g ∙ sym byte ∙ z))) (ap (left_found (names + 1)) far))
        where
          far : place - at + n ≡ place + n - at
          far = omega (arith, p.past)

      pub passed_more : b ≡ plus → Passed s at (names + 1) (place + n + 1)
      passed_more h = record {
        past = omega (arith, p.past);
        few = omega (arith, p.few, p.past, here.some);
        within = λ z. omega (arith, byte_inside s (place + n) (omega arith));
        rest =
            p.rest
            ∙ rw (left_more (drop place s) n (sym e) (byte ∙ sym g ∙ h), before_before, drop-drop (n + 1) place s, ← add_assoc place n 1)
            (ap (λ (k : ℕ). names_before (names + 1) k (left_at (drop (place + n + 1) s))) far);
      }
        where
          far : place - at + (n + 1) ≡ place + n + 1 - at
          far = omega (arith, p.past)
