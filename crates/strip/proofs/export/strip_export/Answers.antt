-- `strip_export` meets its contract: the columns that are kept lie in their buffer, and where the header is not whole there is room to read on. Assumes nothing.
use Rattle.std.proofs.Common.{rules, ap, ◌∙◌}
use Rattle.std.specs.Prelude.{Ok}
use Rattle.strip.proofs.Inside.{kept_inside, kept_long, header_room}
use Rattle.strip.proofs.export.strip_export.Goals as goal

pub slice_bounds-kept-end : goal.slice_bounds-kept-end
slice_bounds-kept-end c = search (kept_inside, rules)

pub slice_bounds-strip_records-end : goal.slice_bounds-strip_records-end
slice_bounds-strip_records-end c = search (kept_long, rules)

pub read_on-requires : goal.read_on-requires
read_on-requires c = header_room _ _ c.kept_columns.ensures (c.in-Ok-None.is ∙ ap Ok c.in-Ok-None.field-0-is) c.loop.invariant
