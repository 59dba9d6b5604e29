-- `item_lines` meets its contract. Assumes nothing.
use borrow.Author.Rules.{rules}
use Rattle.puts.proofs.Growing.{grown_stops}
use Rattle.writer.specs.Texts.{form_line, item_line, item_lines}
use Rattle.writer.proofs.Pieces.{pieces_start, pieces_next, pieces_stop, pieces_done}
use Rattle.writer.proofs.Lines.{item_named}
use Rattle.writer.proofs.book.item_lines.Goals as goal

pub item_line-requires : goal.item_line-requires
item_line-requires c = search (item_named, rules)

pub returns-in_err-next : goal.returns-in_err-next
returns-in_err-next c = grown_stops (item_lines c.args.items.now c.args.n) c.from_residual.ensures c.in_err-next.ensures

pub loop-i-init : goal.loop-i-init
loop-i-init c = pieces_start (item_line c.args.items.now) (form_line) c.in_ok-next.ensures

pub returns-in_err-next-2 : goal.returns-in_err-next-2
returns-in_err-next-2 c = pieces_stop (item_line c.args.items.now) (form_line) c.loop-i.invariant c.loop-i-test.true c.from_residual-in_err-next-2.ensures c.in_err-next-2.ensures

pub loop-i-preserved : goal.loop-i-preserved
loop-i-preserved c = pieces_next (item_line c.args.items.now) (form_line) c.loop-i.invariant c.in_ok-next-2.ensures

pub returns : goal.returns
returns c = pieces_done (item_line c.args.items.now) (form_line) c.loop-i.invariant c.loop-i-test.false c.loop-i.auto.i-end
