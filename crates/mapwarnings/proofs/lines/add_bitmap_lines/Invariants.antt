use Rattle.std.proofs.Common.{◌≡◌, ◌++◌, drop}
use Rattle.std.specs.List.{flat_map}
use Rattle.mapwarnings.specs.Lines.{bitmap_line}
use Rattle.mapwarnings.proofs.lines.add_bitmap_lines.Given as goal

abbrev pub invariant-loop-small : goal.invariant-loop-small
invariant-loop-small l = l.out.items ++ flat_map (bitmap_line l.name) (drop l.small-index l.bitmaps) ≡ l.initial.out.items ++ flat_map (bitmap_line l.name) l.bitmaps
