use Rattle.std.proofs.Common.{◌≡◌, ℕ, if◌then◌else◌, Some, drop, length}
use Rattle.scanfill.specs.Runs.{is_in_spans}
use Rattle.canvas.specs.Painted.{colour_of}
use Rattle.canvas.proofs.colouring.ColouredSpansColouring.fill.Given as goal

-- where the remaining spans are filled too, all are
abbrev pub invariant-loop-span : goal.invariant-loop-span
invariant-loop-span l = record {
  width : length l.row ≡ length l.fn.row;
  filled : (i : ℕ) →
      (if is_in_spans (drop l.span-index l.self.spans.now) i then Some l.self.colour else colour_of l.row i)
      ≡ (if is_in_spans l.self.spans.now i then Some l.self.colour else colour_of l.fn.row i);
}
