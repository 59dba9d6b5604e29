-- "the same items and the same lines, which differ only in the classes written there", said of the bytes of two texts.
-- Assumes nothing.
use Rattle.std.specs.Prelude.{◌≡◌, List, [], ◌∷◌, ◌++◌, ℕ}
use Rattle.classes.specs.declared.Class.{Class}
use Rattle.rules.specs.declared.Head.{Head}
use Rattle.rules.specs.Agreeing.{TablesAgree}
use Rattle.accepts.specs.Tables.{Tables}
use Rattle.scans.specs.Ascii.{lf}
use Rattle.tokens.specs.Tokens.{class_text}
use Rattle.writer.specs.Texts.{book_text}

-- The texts of two books with the same items, and rule tables that agree in part p.
pub record WrittenAlike (p : ℕ) (l m : List ℕ) : Type 0 where
  pub head : Head
  pub head' : Head
  pub items : List ℕ
  pub rules : List ℕ
  pub rules' : List ℕ
  pub tables : Tables head items rules
  pub tables' : Tables head' items rules'
  pub agree : TablesAgree p head rules head' rules'
  pub text : l ≡ book_text head items rules
  pub text' : m ≡ book_text head' items rules'

-- Two lines, their LF left out, that are the same or differ only in the class at their end.
pub data SameButClass : List ℕ → List ℕ → Type 0 where
  same : {x : List ℕ} → SameButClass x x
  other_class : (x : List ℕ) (c d : Class) → SameButClass (x ++ class_text c) (x ++ class_text d)

-- As many lines, in the same order, and each is so.
pub data SameLines : List ℕ → List ℕ → Type 0 where
  none : SameLines [] []
  next : (x y : List ℕ) → SameButClass x y → {l m : List ℕ} → SameLines l m → SameLines (x ++ lf ∷ l) (y ++ lf ∷ m)
