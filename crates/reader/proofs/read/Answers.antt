-- `read` meets its contract, one law for each answer. Assumes nothing.
use mathlib.Core.Path.{refl}
use borrow.Author.Rules.{rules}
use Rattle.std.proofs.lemmas.Result.{err_from_is_err_and}
use Rattle.reader.proofs.Answers.{says_too_long, starts_empty, holds_book, says_refused, says_book}
use Rattle.reader.proofs.read.Goals as goal

pub returns-then-text-gt-MOST_TEXT : goal.returns-then-text-gt-MOST_TEXT
returns-then-text-gt-MOST_TEXT c = search (says_too_long, rules)

pub read_lines-requires : goal.read_lines-requires
read_lines-requires c = search (starts_empty, rules)

pub returns-in_err-head : goal.returns-in_err-head
returns-in_err-head c =
    let p = err_from_is_err_and c.from_residual.result c.from_residual.ensures.1 in
    rw (p.1, p.2) (says_refused c.in_err-head.ensures c.if-text-gt-MOST_TEXT.false refl)

pub copy_out-requires : goal.copy_out-requires
copy_out-requires c = holds_book c.in_ok-head.ensures refl

pub returns : goal.returns
returns c = says_book c.in_ok-head.ensures c.if-text-gt-MOST_TEXT.false refl c.copy_out.ensures
