-- `left_names` meets its contract. Assumes nothing.
use borrow.Author.Rules.{rules}
use Rattle.puts.proofs.Growing.{put_grown, put_stops}
use Rattle.keys.specs.Keys.{key_text}
use Rattle.writer.specs.Texts.{left_piece, left_text, rule_key}
use Rattle.writer.proofs.Pieces.{pieces_start, pieces_next, pieces_stop, pieces_done}
use Rattle.writer.proofs.Lines.{named_at}
use Rattle.writer.proofs.book.left_names.Goals as goal

pub left_piece-requires : goal.left_piece-requires
left_piece-requires c = search (named_at, rules)

pub returns-in_err-next : goal.returns-in_err-next
returns-in_err-next c = put_stops (left_text c.args.items.now c.args.rule) c.from_residual.ensures (rw c.kind_key.ensures at c.in_err-next.ensures)

pub loop-k-init : goal.loop-k-init
loop-k-init c = pieces_start (left_piece c.args.items.now c.args.rule) (key_text (rule_key c.args.rule)) (put_grown (rw c.kind_key.ensures at c.in_ok-next.ensures))

pub returns-in_err-next-2 : goal.returns-in_err-next-2
returns-in_err-next-2 c = pieces_stop (left_piece c.args.items.now c.args.rule) (key_text (rule_key c.args.rule)) c.loop-k.invariant c.loop-k-test.true c.from_residual-in_err-next-2.ensures c.in_err-next-2.ensures

pub loop-k-preserved : goal.loop-k-preserved
loop-k-preserved c = pieces_next (left_piece c.args.items.now c.args.rule) (key_text (rule_key c.args.rule)) c.loop-k.invariant c.in_ok-next-2.ensures

pub returns : goal.returns
returns c = pieces_done (left_piece c.args.items.now c.args.rule) (key_text (rule_key c.args.rule)) c.loop-k.invariant c.loop-k-test.false c.loop-k.auto.k-end
