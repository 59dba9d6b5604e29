-- `write` meets its contract, one law for each answer. Assumes nothing.
use borrow.Author.Rules.{rules}
use Rattle.std.proofs.lemmas.Result.{err_from_is_err_and}
use Rattle.accepts.specs.Tables.{Tables}
use Rattle.writer.proofs.Says.{says_bad_tables, says_too_long, text_count, says_copied}
use Rattle.writer.proofs.write.Goals as goal
use Rattle.writer.proofs.write.Goals.{then-not-items_ok-via-then-not-items_ok, then-not-items_ok-via-else-not-items_ok+then-not-rules_ok}

pub returns-then-not-items_ok : goal.returns-then-not-items_ok
returns-then-not-items_ok c =
    says_bad_tables
    (elim c.then-not-items_ok.branch [
      | then-not-items_ok-via-then-not-items_ok w ↦ λ p. c.items_ok.ensures.fails w.if-not-items_ok.true p.items
      | then-not-items_ok-via-else-not-items_ok+then-not-rules_ok w ↦ λ p. w.rules_ok.ensures.fails w.if-not-rules_ok.true p.rules
    ])
    c.at.ensures

pub returns-in_err-len : goal.returns-in_err-len
returns-in_err-len c =
    let p = err_from_is_err_and c.from_residual.result c.from_residual.ensures.1 in
    let tables : Tables c.args.head c.args.items.now c.args.rules.now = search rules in
    rw (p.1, p.2) (says_too_long tables c.book.ensures c.in_err-len.ensures.ok_part c.at-2.ensures c.in_err-len.ensures.value)

pub slice_bounds-copy_out-end : goal.slice_bounds-copy_out-end
slice_bounds-copy_out-end c =
    let tables : Tables c.args.head c.args.items.now c.args.rules.now = search rules in
    text_count tables c.book.ensures c.in_ok-len.ensures.ok_part

pub returns : goal.returns
returns c =
    let tables : Tables c.args.head c.args.items.now c.args.rules.now = search rules in
    says_copied tables c.book.ensures c.in_ok-len.ensures.ok_part c.copy_out.ensures
