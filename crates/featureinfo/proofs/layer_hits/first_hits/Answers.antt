use Rattle.std.proofs.Common.{◌≡◌, ◌∙◌, ◌<◌, ℕ, suc, ◌+◌, List, [], ◌∷◌, ◌++◌, length, take, drop, drop-cons, take_all, get_or, Some, sym, ap, subst, arith}
use Rattle.std.proofs.lemmas.List.{take-append-drop, take_more}
use Rattle.std.proofs.lemmas.List.Kept.{AllPairs-from_increasing}
use Rattle.std.proofs.lemmas.Grind.{get_or_default_zero}
use Rattle.std.proofs.lemmas.List.Elements.{All-get_or}
use Rattle.std.proofs.lemmas.Option.{slice_get-get_or}
use Rattle.std.specs.List.{AllPairs, Contains, slice_get}
use Rattle.mapdefs.specs.declared.feature.FeatureFields.{FeatureFields}
use Rattle.featureinfo.specs.Nearby.{nearby_of}
use Rattle.featureinfo.proofs.Wanted.{is-wanted, not-wanted}
use Rattle.viewport.specs.View.{ViewValue}
use Rattle.vertices.proofs.Finding.{here}
use Rattle.featureinfo.specs.Hits.{AreFirstAmong, IsHitAt}
use Rattle.featureinfo.proofs.Firsts.{skips, adds, ends, stops}
use Rattle.featureinfo.proofs.layer_hits.first_hits.Goals as goal
use Rattle.featureinfo.proofs.layer_hits.first_hits.Goals.{then-branch+in_ok-push, else-branch}

pub returns-then-len-asked : goal.returns-then-len-asked
returns-then-len-asked c =
    let found : List ℕ = c.args.found.now.items in
    let i : ℕ = c.loop-index.index-index in
    let wanted : ℕ → Type 0 = IsHitAt c.args.scene.now c.args.layer.now c.args.asked.column c.args.asked.row in
    let rises : AllPairs (λ a b. a < b) (take i found ++ drop i found) = subst (λ (fs : List ℕ). AllPairs (λ a b. a < b) fs) (sym (take-append-drop i found)) (AllPairs-from_increasing found c.requires.rising) in
    rw c.of.ensures
    (subst (λ (fs : List ℕ). AreFirstAmong wanted c.args.asked.count fs c.loop-index.hits.items) (take-append-drop i found)
    (stops wanted c.args.asked.count (take i found) (drop i found) c.loop-index.hits.items rises c.loop-index.invariant (omega (arith, c.if-len-asked.true, c.len.ensures))))

pub loop-index-preserved : goal.loop-index-preserved
loop-index-preserved c =
    let found : List ℕ = c.args.found.now.items in
    let i : ℕ = c.loop-index.index-index in
    let same = c.deref-index-items.ensures.value in
    let bound = rw same at c.loop-index-test.true in
    let scene = c.args.scene.now in
    let layer = c.args.layer.now in
    let wanted : ℕ → Type 0 = IsHitAt scene layer c.args.asked.column c.args.asked.row in
    let index : ℕ = get_or found i 0 in
    let one : take (i + 1) found ≡ take i found ++ index ∷ [] = take_more found i index bound ∙ ap (λ x. take i found ++ x ∷ []) (get_or_default_zero found i index bound) in
    let inside : index < length layer.features = All-get_or (λ k. k < length layer.features) found i 0 bound c.requires.indices in
    let feature = c.index-features-index.result in
    let found-there : feature ≡ get_or layer.features index feature = rw (c.as_slice-features.ensures, same) at c.index-features-index.is in
    let there : slice_get layer.features index ≡ Some feature = slice_get-get_or layer.features index feature inside ∙ ap (λ (f : FeatureFields). Some f) (sym found-there) in
    let near : c.of-nearby.result ≡ nearby_of scene.view.width scene.view.height layer.tolerance c.args.asked.column c.args.asked.row =
    c.of-nearby.ensures.value
    ∙ ap (λ (v : ViewValue). nearby_of v.width v.height layer.tolerance c.args.asked.column c.args.asked.row) c.projection-projection.ensures in
    let rises : AllPairs (λ a b. a < b) (take i found ++ drop i found) = subst (λ (fs : List ℕ). AllPairs (λ a b. a < b) fs) (sym (take-append-drop i found)) (AllPairs-from_increasing found c.requires.rising) in
    let next : Contains (drop i found) index = subst (λ (fs : List ℕ). Contains fs index) (sym (drop-cons found i 0 bound)) (here index (drop (suc i) found)) in
    let says = rw c.get-feature.ensures.value at c.in_ok-is_classed_near.ensures in
    elim c.if-branch.branch [
      | then-branch+in_ok-push w ↦ rw (one, w.hits-is, w.in_ok-push.ensures.items, same)
          (adds wanted c.args.asked.count (take i found) (drop i found) c.loop-index.hits.items index rises next c.loop-index.invariant (omega (arith, c.if-len-asked.false, c.len.ensures))
          (is-wanted scene layer c.args.asked.column c.args.asked.row index c.of-nearby.result feature near there c.in_ok-is_classed_near.field-0 says c.requires.shows w.if-branch.true))
      | else-branch w ↦ rw (one, w.hits-is)
          (skips wanted c.args.asked.count (take i found) c.loop-index.hits.items index c.loop-index.invariant
          (not-wanted scene layer c.args.asked.column c.args.asked.row index c.of-nearby.result feature near there c.in_ok-is_classed_near.field-0 says w.if-branch.false))
    ]

pub returns : goal.returns
returns c =
    let found : List ℕ = c.args.found.now.items in
    let wanted : ℕ → Type 0 = IsHitAt c.args.scene.now c.args.layer.now c.args.asked.column c.args.asked.row in
    rw c.of-2.ensures
    (subst (λ (fs : List ℕ). AreFirstAmong wanted c.args.asked.count fs c.loop-index.hits.items) (take_all c.loop-index.index-index found (omega (arith, rw c.deref-index-items.ensures.value at c.loop-index-test.false)))
    (ends wanted c.args.asked.count (take c.loop-index.index-index found) c.loop-index.hits.items c.loop-index.invariant))
