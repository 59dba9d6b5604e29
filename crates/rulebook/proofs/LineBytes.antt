-- The bytes of a line that is read: its key's text, its value's bytes and LF; and a name, which is the whole run of its bytes. They rest on the definitions of
-- lines and of tokens.
-- Assumes nothing.
use mathlib.Core.Path.{◌≡◌, refl, ap, ◌∙◌, subst}
use mathlib.Core.Bool.{Bool, true, false, cond}
use mathlib.Core.List.{List, [], ◌∷◌, ◌++◌}
use Prim.Native.Nat.{ℕ, ◌+◌, ◌<◌}
use native.Mathlib.Numerals.{add-one}
use native.Mathlib.Omega.{arith}
use lib.Dec.{ltb}
use lib.ListN.{take, drop}
use lib.Seq.{take-suc, take-add}
use Rattle.std.specs.Prelude.{Option, Some, None}
use Rattle.scans.specs.Ascii.{lf}
use Rattle.items.specs.Names.{name_room}
use Rattle.scans.specs.Bytes.{name_byte, byte_at, run_len}
use Rattle.scans.proofs.Places.{byte_in, byte_inside}
use Rattle.keys.specs.Keys.{key_text}
use Rattle.keys.proofs.KeyTexts.{key_is_text}
use Rattle.tokens.specs.Tokens.{name_of_run, name_at}
use Rattle.lines.specs.Lines.{line_len}
use Rattle.lines.specs.declared.Line.{Line}
use Rattle.reader.proofs.LineFacts.{LineParts}

-- A name that is read is the whole run of its bytes.
abbrev RunSays : List ℕ → Option ℕ → Type 0
RunSays l None = Unit
RunSays l (Some n) = run_len name_byte l ≡ n

run_says : (l : List ℕ) → RunSays l (name_at l)
unfolding name_of_run
run_says l = says (ltb (run_len name_byte l) 1) (ltb name_room (run_len name_byte l))
  where
    says : (a b : Bool) → RunSays l (cond a None (cond b None (Some (run_len name_byte l))))
    says true b = tt
    says false true = tt
    says false false = refl

pub name_run : (l : List ℕ) (n : ℕ) → name_at l ≡ Some n → run_len name_byte l ≡ n
name_run l n e = subst (RunSays l) e (run_says l)

-- One byte more at the front of a text.
pub take_byte : (n : ℕ) (l : List ℕ) (b : ℕ) → byte_at (drop n l) ≡ b → 0 < b → take (n + 1) l ≡ take n l ++ (b ∷ [])
take_byte n l b e h =
    ap (λ (k : ℕ). take k l) (add-one n) ∙ take-suc l n 0 (byte_inside l n (omega arith)) ∙ ap (λ (c : ℕ). take n l ++ (c ∷ [])) (byte_in l n ∙ e)

-- The bytes of a line: its key's text, its value's bytes, and LF.
pub line_text : (l : List ℕ) (x : Line) → LineParts l x
    → take (line_len x) l ≡ key_text x.key ++ take x.value.len (drop x.from l) ++ (lf ∷ [])
line_text l x h =
    take_byte (x.from + x.value.len) l lf h.last (omega arith)
    ∙ ap (λ (y : List ℕ). y ++ (lf ∷ [])) (take-add x.from x.value.len l ∙ ap (λ (y : List ℕ). y ++ take x.value.len (drop x.from l)) front)
  where
    front : take x.from l ≡ key_text x.key
    front = let here = key_is_text l x.key x.from h.key in ap (λ (k : ℕ). take k l) here.size ∙ here.begins.text
