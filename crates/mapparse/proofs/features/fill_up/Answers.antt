use Rattle.std.proofs.Common.{sym, ◌∙◌, arith}
use Rattle.mapparse.proofs.Padding.{padded-more, padded-full}
use Rattle.mapparse.proofs.features.fill_up.Goals as goal

pub loop-values-preserved : goal.loop-values-preserved
loop-values-preserved c =
    rw c.in_ok-push.ensures.ok
    (padded-more c.args.count c.loop-values.values (omega (arith, c.loop-values-test.true)) ∙ c.loop-values.invariant)

pub returns : goal.returns
returns c = sym (padded-full c.args.count c.loop-values.values (omega (arith, c.loop-values-test.false))) ∙ c.loop-values.invariant
