-- `strip_held` meets its contract: what was taken and written lies within what was lent, and where nothing was taken there is room to read on. Assumes nothing.
use Rattle.std.proofs.Common.{rules}
use Rattle.strip.proofs.Inside.{written_within, written_long, taken_held, none_room}
use Rattle.strip.proofs.export.strip_held.Goals as goal

pub slice_bounds-write_records-end : goal.slice_bounds-write_records-end
slice_bounds-write_records-end c = search (written_within, rules)

pub slice_bounds-write_records-end-then-cut-gt0 : goal.slice_bounds-write_records-end-then-cut-gt0
slice_bounds-write_records-end-then-cut-gt0 c = search (written_long, rules)

pub write_records-requires : goal.write_records-requires
write_records-requires c = search (taken_held, rules)

pub read_on-requires : goal.read_on-requires
read_on-requires c = none_room _ _ c.strip.ensures c.in-Ok.is c.requires (search rules) (search rules)
