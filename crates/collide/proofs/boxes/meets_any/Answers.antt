use Rattle.std.proofs.Common.{◌∙◌, Some, ap, arith}
use Rattle.std.proofs.lemmas.Bool.{false≢true}
use Rattle.std.proofs.lemmas.Option.{slice_get-get_or}
use Rattle.collide.proofs.boxes.meets_any.Goals as goal

pub returns : goal.returns
returns c =
    let t = c.loop-other-test.false in (
      λ h. absurd (false≢true h),
      λ a. absurd (c.loop-other.invariant a.0 a.1 (omega (arith, t, a.2)) (slice_get-get_or c.args.boxes.now a.0 a.1 a.2 ∙ ap Some a.3) a.4),
    )
