use Rattle.std.proofs.Common.{◌≡◌, ℤ, ◌||◌, take}
use Rattle.std.specs.List.{list_any}
use Rattle.labelink.specs.Disc.{outlines_run, run_at}
use Rattle.labelink.proofs.ink_runs.InkLine.add_runs.Given as goal

abbrev pub invariant-loop-span : goal.invariant-loop-span
invariant-loop-span l = (i j : ℤ) → list_any (λ run. outlines_run run i j) l.runs.items
    ≡ (list_any (λ run. outlines_run run i j) l.fn.runs.items || list_any (λ span. outlines_run (run_at l.chords l.self.left l.self.row span) i j) (take l.span-index l.ink))
