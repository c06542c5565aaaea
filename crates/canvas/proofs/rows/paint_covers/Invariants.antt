use Rattle.std.proofs.Common.{Some, take}
use Rattle.std.specs.List.{list_any}
use Rattle.canvas.specs.Painted.{IsFilled}
use Rattle.canvas.proofs.rows.paint_covers.Given as goal

abbrev pub invariant-loop-cover : goal.invariant-loop-cover
invariant-loop-cover g l = IsFilled (λ i j. list_any (λ c. g.C.Cover.covered c i j) (take l.cover-index l.covers)) (λ i j. Some l.colour) l.fn.canvas l.canvas
