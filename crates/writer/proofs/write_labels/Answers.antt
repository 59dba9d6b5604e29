-- `write_labels` meets its contract, one law for each answer. Assumes nothing.
use borrow.Author.Rules.{rules}
use Rattle.writer.specs.Writing.{Labels}
use Rattle.writer.proofs.Says.{says_bad_names, says_few_labels, says_bad_label, labels_right, labels_some, labels_count, says_labelled}
use Rattle.writer.proofs.write_labels.Goals as goal

pub returns-then-not-items_ok : goal.returns-then-not-items_ok
returns-then-not-items_ok c = search (says_bad_names, rules)

pub returns-then-not-has_room : goal.returns-then-not-has_room
returns-then-not-has_room c = search (says_few_labels, rules)

pub returns-in-Some : goal.returns-in-Some
returns-in-Some c = search (says_bad_label, rules)

pub unwrap-len-requires : goal.unwrap-len-requires
unwrap-len-requires c =
    let right : Labels c.args.items.now c.args.n c.args.labels.levels.now c.args.labels.marks.now = search (labels_right, rules) in
    labels_some right c.labels_text.ensures

pub slice_bounds-copy_out-end : goal.slice_bounds-copy_out-end
slice_bounds-copy_out-end c =
    let right : Labels c.args.items.now c.args.n c.args.labels.levels.now c.args.labels.marks.now = search (labels_right, rules) in
    labels_count right c.labels_text.ensures c.unwrap-len.ensures

pub returns : goal.returns
returns c =
    let right : Labels c.args.items.now c.args.n c.args.labels.levels.now c.args.labels.marks.now = search (labels_right, rules) in
    says_labelled right c.labels_text.ensures c.unwrap-len.ensures c.copy_out.ensures
