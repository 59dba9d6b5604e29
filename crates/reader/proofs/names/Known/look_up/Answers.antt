-- `look_up` meets its contract. Assumes nothing.
use mathlib.Core.Path.{ap, ◌∙◌}
use Rattle.std.specs.Prelude.{Ok}
use Rattle.reader.proofs.LookUps.{looking_none, looking_room, looking_fits, looking_next, looking_absent, looking_more, looking_all}
use borrow.Author.Rules.{rules}
use Rattle.reader.proofs.names.Known.look_up.Goals as goal

pub loop-k-init : goal.loop-k-init
loop-k-init c = looking_none c.args.self.names.now c.args.self.count c.requires

pub returns-in_default : goal.returns-in_default
returns-in_default c = looking_absent c.loop-k.invariant c.requires c.loop-k-test.true c.run-len.ensures c.find_at.ensures (λ i e. search rules)

pub returns-in_default-2 : goal.returns-in_default-2
returns-in_default-2 c = looking_absent c.loop-k.invariant c.requires c.loop-k-test.true c.run-len.ensures c.find_at.ensures (λ i e. search rules)

pub bounds-left-k : goal.bounds-left-k
bounds-left-k c = search (looking_room, rules)

pub overflow_add-place : goal.overflow_add-place
overflow_add-place c = search (looking_fits, rules)

pub overflow_add-place-in-loop-k : goal.overflow_add-place-in-loop-k
overflow_add-place-in-loop-k c = search (looking_next, rules)

pub loop-k-preserved : goal.loop-k-preserved
loop-k-preserved c =
    looking_more c.loop-k.invariant c.requires c.loop-k-test.true c.run-len.ensures c.find_at.ensures (c.in-Ok-Some.is ∙ ap Ok c.in-Ok-Some.field-0-is)

pub returns : goal.returns
returns c = search (looking_all, rules)
