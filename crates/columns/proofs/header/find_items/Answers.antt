-- `find_items` meets its contract. The loop's invariant: the names before are items, and none is repeated. Assumes nothing.
use mathlib.Core.Path.{ap, ◌∙◌}
use native.Mathlib.Omega.{arith}
use borrow.Author.Rules.{rules}
use Rattle.std.specs.Prelude.{Ok}
use Rattle.columns.proofs.Looking.{look_none, look_field, look_absent, look_held, look_repeated, look_room, look_more, look_all}
use Rattle.columns.proofs.header.find_items.Goals as goal

pub loop-c-init : goal.loop-c-init
loop-c-init c = search (look_none, rules)

pub item_named-requires : goal.item_named-requires
item_named-requires c = search (look_field, rules)

pub returns-in_default : goal.returns-in_default
returns-in_default c = look_absent c.loop-c.invariant (omega arith) c.nth_field.ensures c.item_named.ensures (λ i e. search rules)

pub returns-in_default-2 : goal.returns-in_default-2
returns-in_default-2 c = look_absent c.loop-c.invariant (omega arith) c.nth_field.ensures c.item_named.ensures (λ i e. search rules)

pub holds-requires : goal.holds-requires
holds-requires c = search (look_held, rules)

pub returns-then-holds : goal.returns-then-holds
returns-then-holds c =
    look_repeated c.loop-c.invariant (omega arith) c.nth_field.ensures c.item_named.ensures (c.in-Ok-Some.is ∙ ap Ok c.in-Ok-Some.field-0-is)
    c.holds.ensures c.if-holds.true

pub bounds-numbers-c : goal.bounds-numbers-c
bounds-numbers-c c = search (look_room, rules)

pub loop-c-preserved : goal.loop-c-preserved
loop-c-preserved c =
    look_more c.loop-c.invariant (omega arith) c.nth_field.ensures c.item_named.ensures (c.in-Ok-Some.is ∙ ap Ok c.in-Ok-Some.field-0-is)
    c.holds.ensures c.if-holds.false

pub returns : goal.returns
returns c = search (look_all, rules)
