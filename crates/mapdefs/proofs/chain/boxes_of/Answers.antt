use Rattle.std.proofs.Common.{◌≡◌, ◌∙◌, ℕ, ◌+◌, ◌*◌, ◌-◌, ◌<◌, ◌≤◌, List, [], ◌∷◌, ◌++◌, length, get_or, refl, sym, ap, arith, ⊎_elim}
use Rattle.std.proofs.lemmas.Bool.{cases_lt}
use Rattle.std.proofs.lemmas.List.{get_or-append_right, get_or_append_left, length-append}
use Rattle.geom.specs.World.{Area, Place}
use Rattle.mapdefs.specs.Blocks.{block_of, box_of_places}
use Rattle.mapdefs.proofs.chain.boxes_of.Goals as goal

-- the box of one more block
boxes-more : (vertices : List Place) (boxes : List Area) (k : ℕ) (area : Area) → length boxes ≡ k →
    ((n : ℕ) (d : Area) → n < length boxes → get_or boxes n d ≡ box_of_places (block_of vertices n)) → area ≡ box_of_places (block_of vertices k) →
    (n : ℕ) (d : Area) → n < length (boxes ++ area ∷ []) → get_or (boxes ++ area ∷ []) n d ≡ box_of_places (block_of vertices n)
boxes-more vertices boxes k area count each is = λ n d h. ⊎_elim
    (λ (lt : n < length boxes). get_or_append_left boxes (area ∷ []) d n lt ∙ each n d lt)
    (λ (ge : length boxes ≤ n).
    let same : n ≡ k = omega (arith, h, ge, count, length-append boxes (area ∷ [])) in
    let first : n - length boxes ≡ 0 = omega (arith, same, count) in
    let last : get_or (boxes ++ area ∷ []) n d ≡ area = get_or-append_right boxes (area ∷ []) (length boxes) n d refl ge ∙ ap (λ m. get_or (area ∷ []) m d) first in
    last ∙ is ∙ ap (λ m. box_of_places (block_of vertices m)) (sym same))
    (cases_lt n (length boxes))

pub loop-k-preserved : goal.loop-k-preserved
loop-k-preserved c =
    let l = c.loop-k in
    let area = c.box_of_block.result in
    let commuted : l.k * 32 ≡ 32 * l.k = omega arith in
    let is : area ≡ box_of_places (block_of c.args.vertices.now l.k) = rw commuted at c.box_of_block.ensures in
    rw c.in_ok-push.ensures.items (record {
      count = length-append l.boxes.items (area ∷ []) ∙ ap (λ n. n + 1) l.invariant.count;
      each = boxes-more c.args.vertices.now l.boxes.items l.k area l.invariant.count l.invariant.each is;
    })
