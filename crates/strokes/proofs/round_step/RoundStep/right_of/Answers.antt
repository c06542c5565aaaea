use Rattle.std.proofs.Common.{◌≡◌, ℕ, ◌<◌, true, sym, subst, arith, ⊎_elim}
use Rattle.std.proofs.lemmas.Bool.{cases_lt}
use Rattle.strokes.specs.Chord.{is_beside}
use Rattle.strokes.proofs.round_step.RoundStep.right_of.Goals as goal

pub loop-column-preserved : goal.loop-column-preserved
loop-column-preserved c = λ i from less. ⊎_elim
    (λ (before : i < c.loop-column.column). c.loop-column.invariant i from before)
    (λ at. let same : i ≡ c.loop-column.column = omega arith in subst (λ (n : ℕ). is_beside c.args.self.now.width c.args.self.now.edge c.args.row n ≡ true) (sym same) (sym c.if-not-is_beside.ensures))
    (cases_lt i c.loop-column.column)
