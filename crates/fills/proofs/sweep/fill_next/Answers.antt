use Rattle.std.proofs.Common.{◌∙◌, ap, sym}
use Rattle.scanfill.specs.Sweep.{SweepValue}
use Rattle.canvas.proofs.Filling.{runs-fit}
use Rattle.fills.proofs.Sweeping.{inside_of, rows-last, rows-next, runs-inside}
use Rattle.fills.proofs.sweep.fill_next.Goals as goal

pub returns-then-not-branch-clause-filled : goal.returns-then-not-branch-clause-filled
returns-then-not-branch-clause-filled c =
    rows-last c.args.sweep.now c.skip.new.self c.args.colour c.next.new.self.row c.args.canvas.now c.requires.area c.requires.width c.skip.ensures.empty c.skip.ensures.row
    c.skip.ensures.to (ap (λ (s : SweepValue). s.row) c.in_ok-next.ensures.ok) (sym c.if-not-branch.true ∙ c.in_ok-next.ensures.more)

pub fill_row-requires-clause-within : goal.fill_row-requires-clause-within
fill_row-requires-clause-within c =
    runs-fit (λ i. inside_of c.args.sweep.now.edges i c.skip.new.self.row) c.as_slice.result.now c.next.new.out c.args.canvas.now.width c.as_slice.ensures
    (runs-inside c.args.sweep.now c.skip.new.self c.args.canvas.now.width c.next.new.out c.requires.width c.skip.ensures.row (c.in_ok-next.ensures.row c.if-not-branch.false))

pub returns-clause-filled : goal.returns-clause-filled
returns-clause-filled c =
    let filled = rw c.row-row.ensures at c.fill_row.ensures in
    rows-next c.args.sweep.now c.skip.new.self c.args.colour c.as_slice.result.now c.next.new.out c.next.new.self.row c.args.canvas.now c.fill_row.new.self
    c.requires.area c.requires.width c.skip.ensures.empty c.skip.ensures.row c.skip.ensures.from
    (ap (λ (s : SweepValue). s.row) c.in_ok-next.ensures.ok) (sym c.if-not-branch.false ∙ c.in_ok-next.ensures.more)
    c.as_slice.ensures (c.in_ok-next.ensures.row c.if-not-branch.false) filled
