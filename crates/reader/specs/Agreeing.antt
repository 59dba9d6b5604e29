-- "two rulebooks with the same items and the same lines, which differ only in the classes written there, and agree in those on one mark", as texts: what they are read as has the
-- same items, and rule tables that agree.
-- Assumes nothing.
use Rattle.std.specs.Prelude.{◌≡◌, List, ℕ, ◌*◌, take, Ok}
use Rattle.items.specs.Names.{name_room}
use Rattle.rules.specs.declared.Head.{Head}
use Rattle.rules.specs.Agreeing.{TablesAgree}
use Rattle.reader.specs.Reading.{read_text, read_whole}

-- Two accepted texts that differ only in the classes written there, which agree in part p.
pub record TextsAgree (p : ℕ) (l m : List ℕ) : Type 0 where
  pub head : Head
  pub head' : Head
  pub read : read_whole l ≡ Ok head
  pub read' : read_whole m ≡ Ok head'
  pub items : take (head.items * name_room) (read_text l).names ≡ take (head.items * name_room) (read_text m).names
  pub rules : TablesAgree p head (read_text l).words head' (read_text m).words
