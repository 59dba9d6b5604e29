-- `assign` meets its contract. Assumes nothing.
use mathlib.Core.Path.{refl}
use Rattle.std.proofs.lemmas.Result.{err_from_is_err_and}
use Rattle.assign.proofs.Says.{tables_right, says_unread, says_read}
use Rattle.assign.proofs.assign.Goals as goal

pub returns-in_err-head : goal.returns-in_err-head
returns-in_err-head c =
    let p = err_from_is_err_and c.from_residual.result c.from_residual.ensures.1 in
    rw (p.1, p.2) (says_unread c.in_err-head.ensures refl refl refl)

pub label-requires : goal.label-requires
label-requires c = tables_right c.in_ok-head.ensures refl refl refl

pub returns : goal.returns
returns c = says_read c.in_ok-head.ensures refl refl refl c.label.ensures
