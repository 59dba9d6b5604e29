-- The promise of `reader_class`: the class that a text is.
-- Assumes nothing.
use Rattle.std.specs.Prelude.{◌≡◌, cond, List, [], ◌∷◌, ℕ, eqb, length, Option, Some, None, Result, Ok, Err}
use Rattle.tokens.specs.Tokens.{class_at}
use Rattle.tokens.specs.declared.ClassToken.{ClassToken}
use Rattle.refusals.specs.Said.{Said, success, said_refusal}
use Rattle.refusals.specs.declared.Fault.{Fault}
use Rattle.refusals.specs.declared.Refusal.{Refusal}
use Rattle.classes.specs.declared.Class.{Class}

-- What an answer says: the level and the marks of the class, or a refusal.
abbrev pub said_reader : Result Class Refusal → Said
said_reader (Ok c) = success 0 (c.level ∷ c.marks ∷ [])
said_reader (Err r) = said_refusal r

-- "12 with place 0 for a reader's class that isn't one".
abbrev pub no_class : Result Class Refusal
no_class = Err (record { fault = Fault.BadLabel; place = 0 })

-- The text of n bytes is exactly a class.
abbrev pub whole_class : ℕ → Option ClassToken → Result Class Refusal
whole_class n (Some x) = cond (eqb x.len n) (Ok x.class) no_class
whole_class n None = no_class

abbrev pub reader_of : List ℕ → Result Class Refusal
reader_of l = whole_class (length l) (class_at l)

-- The promise of `reader_class`: what is said of the text l.
pub record ReaderSays (l : List ℕ) (s : Said) : Type 0 where
  pub answer : s ≡ said_reader (reader_of l)
