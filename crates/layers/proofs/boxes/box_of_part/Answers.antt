use Rattle.std.proofs.Common.{◌≡◌, ◌∙◌, ◌+◌, ◌*◌, ◌<◌, ℕ, zero, suc, false, ap, arith, drop, fold, length, refl, sym, take}
use Rattle.std.specs.Prelude.{◌==◌}
use Rattle.std.proofs.lemmas.List.{drop-drop, length-drop}
use Rattle.mapdefs.proofs.BlockBoxes.{wider-same}
use Rattle.mapdefs.specs.Blocks.{box_of_places, nowhere, with_place}
use Rattle.layers.specs.Boxes.{with_box}
use Rattle.layers.proofs.BlocksJoined.{again-next, block-joined, box-wider, joined-end, with-places}
use Rattle.layers.proofs.boxes.box_of_part.Goals as goal

some-of : (n : ℕ) → false ≡ (n == 0) → 0 < n
some-of zero e = absurd (cc)
some-of (suc n) e = omega arith

pub loop-block-init : goal.loop-block-init
loop-block-init c = rw c.nowhere-grown.ensures (record { box = refl; wide = wider-same nowhere; again = λ h v more e. absurd (omega (arith, h)) })

pub loop-block-preserved : goal.loop-block-preserved
loop-block-preserved c =
    let l = c.loop-block in
    let part = c.args.part.now in
    let left = drop (32 * l.block-index) part in
    let box : c.box_of_block-in-loop-block.result ≡ box_of_places (take 33 left) = c.box_of_block-in-loop-block.ensures ∙ (c.block-item.is ∙ c.boxes-boxes.ensures.each l.block-index c.block-item.result c.loop-block-test.true) in
    let on : 32 * l.block-index + 32 ≡ 32 * (l.block-index + 1) = omega arith in
    let behind : drop 32 left ≡ drop (32 * (l.block-index + 1)) part = drop-drop 32 (32 * l.block-index) part ∙ ap (λ n. drop n part) on in
    let next : c.with_box-grown.result ≡ fold with_place l.grown (take 33 left) =
    c.with_box-grown.ensures ∙ (ap (λ b. with_box l.grown b) box ∙ with-places l.grown (take 33 left) l.invariant.wide) in
    record {
      box = ap (λ xs. fold with_place c.with_box-grown.result xs) (sym behind)
          ∙ (block-joined l.grown c.with_box-grown.result c.box_of_block-in-loop-block.result left l.invariant.wide c.with_box-grown.ensures box ∙ l.invariant.box);
      wide = rw c.with_box-grown.ensures (box-wider l.grown c.box_of_block-in-loop-block.result nowhere l.invariant.wide);
      again = λ h v more e. rw next (again-next 32 l.grown left v more (behind ∙ e));
    }

pub returns : goal.returns
returns c =
    let l = c.loop-block in
    let part = c.args.part.now in
    let some : 0 < l.block-index = omega (arith, c.loop-block-test.false, some-of (length c.boxes-boxes.result.now) c.if-is_empty.ensures) in
    joined-end l.grown (box_of_places part) (drop (32 * l.block-index) part)
    (omega (arith, length-drop (32 * l.block-index) part, c.boxes-boxes.ensures.count, c.loop-block-test.false))
    (l.invariant.again some) l.invariant.box
