-- A label that is placed without FORCE shares no pixel with those before it.
use Rattle.std.proofs.Common.{◌≡◌, sym, ◌∙◌, ap, subst}
use Rattle.std.specs.Prelude.{false}
use Rattle.std.proofs.lemmas.Option.{same_Some, slice_get_within, get_or_from_slice_get}
use Rattle.geom.specs.PxBox.{HasPixel}
use Rattle.labelcache.specs.Placement.{UnforcedShareNoPixel}
use Rattle.labelcache.proofs.Unique.{order-at}

pub unforced-share-no-pixel : UnforcedShareNoPixel
unforced-share-no-pixel s labels p i k a b lt is_a is_b free column row in_a in_b =
    let stands = p.stands k b is_b in
    let same : stands.candidate ≡ free.candidate = same_Some stands.candidate free.candidate (sym stands.is ∙ free.is) in
    let unforced : stands.candidate.label.force ≡ false = ap (λ c. c.label.force) same ∙ free.unforced in
    let clear = stands.first.holds.clear unforced i a (slice_get_within labels i a is_a) in
    (rw (get_or_from_slice_get labels i a a is_a) at clear) (order-at s labels i k a b p lt is_a is_b)
    (column, row, subst (λ taken. HasPixel taken column row) stands.taken in_b, in_a)
