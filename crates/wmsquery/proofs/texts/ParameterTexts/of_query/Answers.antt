use Rattle.wmsquery.proofs.Slots.{none-kept, next-kept, all-kept}
use Rattle.wmsquery.proofs.texts.ParameterTexts.of_query.Goals as goal

pub loop-pair-init : goal.loop-pair-init
loop-pair-init c = rw (c.new-texts.ensures, c.into_iter-pair-iterator.ensures.into_iter_gives, c.parse-pair-items.ensures.value) (none-kept _)

pub loop-pair-preserved-in_ok-keep : goal.loop-pair-preserved-in_ok-keep
loop-pair-preserved-in_ok-keep c =
    let (n, v, left, texts) = (rw (c.in-Some.is, c.in_ok-name.was) at c.next.ensures.steps).0 in
    let kept = rw (c.deref.ensures.value, c.deref-in-loop-pair.ensures.value) at c.in_ok-keep.ensures in
    rw kept (next-kept c.loop-pair.texts _ _ n v _ _ _ left texts.0 texts.1 c.loop-pair.invariant)

pub loop-pair-preserved : goal.loop-pair-preserved
loop-pair-preserved c =
    let (n, v, left, texts) = (rw (c.in-Some.is, c.in_ok-name.was) at c.next.ensures.steps).0 in
    let kept = rw (c.deref.ensures.value, c.deref-in-loop-pair.ensures.value) at c.in_ok-keep.ensures in
    rw kept (next-kept c.loop-pair.texts _ _ n v _ _ _ left texts.0 texts.1 c.loop-pair.invariant)

pub returns : goal.returns
returns c = all-kept c.loop-pair.texts _ (rw (rw c.in-None.is at c.next.ensures.steps).0 at c.loop-pair.invariant)
