-- Both tables of a book: the item table t and the rule table w, under the head of the book.
-- Assumes nothing.
use Rattle.std.specs.Prelude.{◌≡◌, List, ℕ, ◌*◌, take}
use Rattle.items.specs.Names.{name_room}
use Rattle.items.specs.Table.{ItemsOk}
use Rattle.rules.specs.declared.Head.{Head}
use Rattle.rules.specs.Table.{rule_words}
use Rattle.accepts.specs.Accepted.{TableAccepted}

-- "for the writer BAD_TABLE includes bad or repeated names": both tables are right.
pub record Tables (h : Head) (t w : List ℕ) : Type 0 where
  pub items : ItemsOk t h.items
  pub rules : TableAccepted h w

-- "Each table comes with its count; entries past it aren't looked at, "equal" is up to it": the item tables t and t' have the same items, and the rule
-- tables w and w' the same rules.
pub record SameTables (h : Head) (t w t' w' : List ℕ) : Type 0 where
  pub items : take (h.items * name_room) t ≡ take (h.items * name_room) t'
  pub rules : take (h.rules * rule_words) w ≡ take (h.rules * rule_words) w'
