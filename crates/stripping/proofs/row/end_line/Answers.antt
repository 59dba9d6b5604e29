-- `end_line` meets its contract: there is room at the place of the line end. Assumes nothing.
use Rattle.stripping.proofs.Making.{over_place, own_place, end_some, ends_line}
use Rattle.stripping.proofs.row.end_line.Goals as goal
use Rattle.stripping.proofs.row.end_line.Goals.{then-to-n, else-to-n}

pub unwrap-requires : goal.unwrap-requires
unwrap-requires c =
    end_some c.args.out.now c.args.to c.args.n c.requires
    (elim c.if-to-n.branch [
      | then-to-n w ↦ over_place c.args.to c.args.n w.if-to-n.true w.at-is
      | else-to-n w ↦ own_place c.args.to c.args.n w.if-to-n.false w.at-is
    ])
    c.put.ensures

pub returns : goal.returns
returns c =
    ends_line c.args.out.now c.args.to c.args.n c.requires
    (elim c.if-to-n.branch [
      | then-to-n w ↦ over_place c.args.to c.args.n w.if-to-n.true w.at-is
      | else-to-n w ↦ own_place c.args.to c.args.n w.if-to-n.false w.at-is
    ])
    c.put.ensures
    c.unwrap.ensures
