-- `rule_lines` meets its contract. Assumes nothing.
use mathlib.Core.List.{◌++◌}
use borrow.Author.Rules.{rules}
use Rattle.puts.proofs.Growing.{grown_stops}
use Rattle.rules.specs.Table.{rule_at}
use Rattle.writer.specs.Texts.{form_line, item_lines, rule_line, rule_lines}
use Rattle.writer.proofs.Pieces.{pieces_start, pieces_next, pieces_stop, pieces_done}
use Rattle.writer.proofs.Lines.{table_named}
use Rattle.writer.proofs.book.rule_lines.Goals as goal

pub rule_line-requires : goal.rule_line-requires
rule_line-requires c = search (table_named, rules)

pub returns-in_err-next : goal.returns-in_err-next
returns-in_err-next c = grown_stops (rule_lines c.args.items.now c.args.rules.now c.args.head.rules) c.from_residual.ensures c.in_err-next.ensures

pub loop-r-init : goal.loop-r-init
loop-r-init c = pieces_start (λ k. rule_line c.args.items.now (rule_at c.args.rules.now k)) (form_line ++ item_lines c.args.items.now c.args.head.items) c.in_ok-next.ensures

pub returns-in_err-next-2 : goal.returns-in_err-next-2
returns-in_err-next-2 c = pieces_stop (λ k. rule_line c.args.items.now (rule_at c.args.rules.now k)) (form_line ++ item_lines c.args.items.now c.args.head.items) c.loop-r.invariant c.loop-r-test.true c.from_residual-in_err-next-2.ensures (rw c.rule_at.ensures at c.in_err-next-2.ensures)

pub loop-r-preserved : goal.loop-r-preserved
loop-r-preserved c = pieces_next (λ k. rule_line c.args.items.now (rule_at c.args.rules.now k)) (form_line ++ item_lines c.args.items.now c.args.head.items) c.loop-r.invariant (rw c.rule_at.ensures at c.in_ok-next-2.ensures)

pub returns : goal.returns
returns c = pieces_done (λ k. rule_line c.args.items.now (rule_at c.args.rules.now k)) (form_line ++ item_lines c.args.items.now c.args.head.items) c.loop-r.invariant c.loop-r-test.false c.loop-r.auto.r-end
