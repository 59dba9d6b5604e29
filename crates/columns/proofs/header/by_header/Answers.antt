-- `by_header` meets its contract. Assumes nothing.
use borrow.Author.Rules.{rules}
use Rattle.std.proofs.lemmas.Result.{err_from_is_err_and}
use Rattle.columns.proofs.Heads.{head_few, by_refusal, by_more, by_kept}
use Rattle.columns.proofs.header.by_header.Goals as goal

pub returns-in_default : goal.returns-in_default
returns-in_default c = search (by_more, rules)

pub keep-requires : goal.keep-requires
keep-requires c = search (head_few, rules)

pub returns : goal.returns
returns c = search (by_kept, rules)

pub returns-in_err-fields : goal.returns-in_err-fields
returns-in_err-fields c =
    let p = err_from_is_err_and c.from_residual.result c.from_residual.ensures.1 in rw (p.1, p.2) (by_refusal c.read_header.ensures c.in_err-fields.was)
