-- The promise of `read` fixes the answer and both tables: an answer is known by what it says, and any two results that are allowed are equal.
-- Assumes nothing.
use mathlib.Core.Path.{◌≡◌, refl, sym, ap, ◌∙◌}
use mathlib.Core.List.{List}
use Prim.Native.Nat.{ℕ}
use lib.ListN.{length, get_or}
use Rattle.reader.specs.Lines.{ReadBook}
use Rattle.std.specs.Prelude.{Ok, Err}
use Rattle.refusals.specs.Said.{Said, success, refused}
use Rattle.refusals.proofs.Said.{said_injective, refusal_of, refusal_back}
use Rattle.rules.specs.declared.Head.{Head}
use Rattle.reader.specs.Reading.{said_read, read_answer, ReadSays}

-- An answer is known by what it says.
abbrev book_of : Said → ReadBook
book_of (success c l) = Ok (record { items = get_or l 0 0; rules = get_or l 1 0 })
book_of (refused n p) = Err (refusal_of n p)

book_back : (x : ReadBook) → book_of (said_read x) ≡ x
book_back (Ok h) = refl
book_back (Err r) = ap Err (refusal_back r)

pub read_told : {l items rules : List ℕ} {r : ReadBook} {items' rules' : List ℕ} → ReadSays l items rules (said_read r) items' rules'
    → r ≡ read_answer l (length items) (length rules)
read_told s = said_injective said_read book_of book_back s.answer

-- A text is read as one book.
pub same_head : {x : ReadBook} {h k : Head} → x ≡ Ok h → x ≡ Ok k → k ≡ h
same_head e f = let same = sym f ∙ e in cc

-- Two results of reading are equal.
pub record Same (a b : ReadBook) (items rules items' rules' : List ℕ) : Type 0 where
  pub answer : a ≡ b
  pub items_same : items ≡ items'
  pub rules_same : rules ≡ rules'

pub read_unique : {l items rules : List ℕ} {a b : ReadBook} {items₁ rules₁ items₂ rules₂ : List ℕ} → ReadSays l items rules (said_read a) items₁ rules₁
    → ReadSays l items rules (said_read b) items₂ rules₂ → Same a b items₁ rules₁ items₂ rules₂
read_unique p q = record {
  answer = read_told p ∙ sym (read_told q);
  items_same = p.items_are ∙ sym q.items_are;
  rules_same = p.rules_are ∙ sym q.rules_are;
}
