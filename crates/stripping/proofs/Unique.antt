-- Any two results that the promise of `strip` allows for the same input are equal. It rests on that an answer is known by what it says.
-- Assumes nothing.
use mathlib.Core.Path.{◌≡◌, refl, sym, ap, ◌∙◌}
use mathlib.Core.Bool.{Bool}
use mathlib.Core.List.{List}
use Prim.Native.Nat.{ℕ}
use lib.ListN.{get_or}
use Rattle.refusals.specs.Said.{Said, success, refused}
use Rattle.refusals.proofs.Said.{said_injective, refusal_of, refusal_back}
use Rattle.stripping.specs.Stripping.{said_stripped, StripSays, made_of, out_after}
use Rattle.std.specs.Prelude.{Result, Ok, Err}
use Rattle.refusals.specs.declared.Refusal.{Refusal}
use Rattle.stripping.specs.declared.Cut.{Cut}

-- The answer that says this.
abbrev stripped_of : Said → Result Cut Refusal
stripped_of (success c l) = Ok (record { used = get_or l 0 0; len = get_or l 1 0; records = get_or l 2 0 })
stripped_of (refused n p) = Err (refusal_of n p)

stripped_back : (r : Result Cut Refusal) → stripped_of (said_stripped r) ≡ r
stripped_back (Ok c) = refl
stripped_back (Err r) = ap Err (refusal_back r)

-- The same answer, and the same content of the buffer.
pub record SameStripped (r s : Result Cut Refusal) (a b : List ℕ) : Type 0 where
  pub answer : r ≡ s
  pub buffer : a ≡ b

pub strip_unique : {l : List ℕ} {last : Bool} {kept : List Bool} {number : ℕ} {out : List ℕ} {r s : Result Cut Refusal} {a b : List ℕ}
    → StripSays l last kept number out (said_stripped r) a → StripSays l last kept number out (said_stripped s) b → SameStripped r s a b
strip_unique {l} {last} {kept} {out = out} {r} {s} {a} {b} p q = record {
  answer = said_injective said_stripped stripped_of stripped_back said;
  buffer = p.out_is ∙ ap (λ (x : Said). out_after x (made_of l last kept) out) said ∙ sym q.out_is;
}
  where
    said : said_stripped r ≡ said_stripped s
    said = p.answer ∙ sym q.answer
