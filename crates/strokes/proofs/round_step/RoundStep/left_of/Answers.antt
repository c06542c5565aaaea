use Rattle.std.proofs.Common.{◌≡◌, ℕ, ◌-◌, ◌<◌, true, sym, subst, arith, ⊎_elim}
use Rattle.std.proofs.lemmas.Bool.{cases_lt}
use Rattle.strokes.specs.Chord.{is_beside}
use Rattle.strokes.proofs.round_step.RoundStep.left_of.Goals as goal

pub loop-left-preserved : goal.loop-left-preserved
loop-left-preserved c = record {
  order = omega (arith, c.loop-left.invariant.order);
  all = λ i from less. ⊎_elim
      (λ (before : i < c.loop-left.left). let same : i ≡ c.loop-left.left - 1 = omega (arith, from) in subst (λ (n : ℕ). is_beside c.args.self.now.width c.args.self.now.edge c.args.row n ≡ true) (sym same) (sym c.if-not-is_beside.ensures))
      (λ at. c.loop-left.invariant.all i at less)
      (cases_lt i c.loop-left.left);
}
