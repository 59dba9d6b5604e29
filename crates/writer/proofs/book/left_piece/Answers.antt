-- `left_piece` meets its contract: a plus sign stands behind every left name but the last. Assumes nothing.
use native.Mathlib.Omega.{arith}
use borrow.Author.Rules.{rules}
use Rattle.puts.proofs.Growing.{put_grown, grown_put, put_stops}
use Rattle.writer.proofs.Lines.{left_place, left_named, sign_plus, sign_colon}
use Rattle.writer.proofs.book.left_piece.Goals.{then-k-rule, else-k-rule}
use Rattle.writer.proofs.book.left_piece.Goals as goal

pub offset_bounds-rule-k : goal.offset_bounds-rule-k
offset_bounds-rule-k c = omega (arith, left_place c.requires)

pub bounds-rule-k : goal.bounds-rule-k
bounds-rule-k c = search (left_place, rules)

pub put_name-requires : goal.put_name-requires
put_name-requires c = search (left_named, rules)

pub returns-in_err-end : goal.returns-in_err-end
returns-in_err-end c = put_stops _ c.from_residual.ensures c.in_err-end.ensures

pub returns : goal.returns
returns c =
    grown_put (put_grown c.in_ok-end.ensures)
    (elim c.if-k-rule.branch [
      | then-k-rule w ↦ sign_plus c.args.k c.args.rule.count w.if-k-rule.true w.sign-is c.put.ensures
      | else-k-rule w ↦ sign_colon c.args.k c.args.rule.count w.if-k-rule.false w.sign-is c.put.ensures
    ])
