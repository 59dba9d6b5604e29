-- What the functions within `writer` speak of: the names of a rule, the text of a labelling as it is made, and a text that is copied to the lent buffer.
-- Assumes nothing.
use Rattle.std.specs.Prelude.{List, [], ◌∷◌, ℕ, ◌≤◌, ◌<◌, length}
use Rattle.laws.specs.Over.{over}
use Rattle.refusals.specs.Said.{Said, success, refused_by}
use Rattle.refusals.specs.declared.Fault.{Fault}
use Rattle.items.specs.Table.{ItemsOk}
use Rattle.rules.specs.declared.Rule.{Rule}
use Rattle.accepts.specs.Accepted.{RuleAccepted}

-- Each item that the rule names has a name in the table t.
pub record Named (t : List ℕ) (x : Rule) : Type 0 where
  pub count : ℕ
  pub names : ItemsOk t count
  pub accepted : RuleAccepted count x

-- So has left name k of it.
pub record NamedAt (t : List ℕ) (x : Rule) (k : ℕ) : Type 0 where
  pub rule : Named t x
  pub below : k < x.count

-- A text x that is not too long, for a buffer that held `out`: it is at the front of it, or has no room.
pub data CopySays (x out : List ℕ) : Said → List ℕ → Type 0 where
  roomless : length out < length x → CopySays x out (refused_by Fault.NoRoom 0) out
  copied : length x ≤ length out → CopySays x out (success 0 (length x ∷ [])) (over out 0 x)
