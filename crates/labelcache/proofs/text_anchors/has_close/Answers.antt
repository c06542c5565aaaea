use Rattle.std.proofs.Common.{◌≡◌, ◌∙◌, ◌<◌, ◌≤◌, Some, ap, sym, subst, arith, ⊎_elim}
use Rattle.std.proofs.lemmas.Bool.{cases_lt, false≢true}
use Rattle.std.proofs.lemmas.Option.{get_or_from_slice_get, slice_get-get_or}
use Rattle.geom.specs.Device.{PixelValue}
use Rattle.labelcache.specs.Anchors.{IsAnchorNear}
use Rattle.labelcache.proofs.text_anchors.has_close.Goals as goal

pub returns : goal.returns
returns c =
    let t = c.loop-other-test.false in (
      λ h. absurd (false≢true h),
      λ a. absurd (c.loop-other.invariant a.0 a.1 (omega (arith, t, a.2)) (slice_get-get_or c.args.anchors.now a.0 a.1 a.2 ∙ ap Some a.3) a.4),
    )

pub loop-other-preserved : goal.loop-other-preserved
loop-other-preserved c = λ i x lt is near. ⊎_elim
    (λ (h : i < c.loop-other.other-index). c.loop-other.invariant i x h is near)
    (λ (h : c.loop-other.other-index ≤ i).
    let e : i ≡ c.loop-other.other-index = omega (arith, lt, h) in
    let here : c.other-item.result ≡ x = c.other-item.is ∙ get_or_from_slice_get c.args.anchors.now c.loop-other.other-index x c.other-item.result (rw e at is) in
    absurd (false≢true (sym c.if-is_close.false ∙ c.is_close.ensures.1 (subst (λ (p : PixelValue). IsAnchorNear c.args.anchor c.args.distance p) (sym here) near))))
    (cases_lt i c.loop-other.other-index)
