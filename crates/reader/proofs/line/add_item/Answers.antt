-- `add_item` meets its contract. Assumes nothing.
use Rattle.reader.proofs.Adding.{item_full, item_twice, item_new}
use mathlib.Core.Path.{ap, ◌∙◌}
use borrow.Author.Rules.{rules}
use Rattle.std.specs.Prelude.{Ok}
use Rattle.reader.proofs.line.add_item.Goals as goal

pub returns-then-n-ge-MOST_ITEMS : goal.returns-then-n-ge-MOST_ITEMS
returns-then-n-ge-MOST_ITEMS c = search (item_full, rules)

pub returns-in_default : goal.returns-in_default
returns-in_default c = search (item_twice, rules)

pub returns : goal.returns
returns c = item_new c.copy_from_slice.ensures.after c.if-n-ge-MOST_ITEMS.false c.find.ensures (c.in-Ok-None.is ∙ ap Ok c.in-Ok-None.field-0-is)
