use Rattle.std.proofs.Common.{ℕ, ◌<◌, get_or, length, sym}
use Rattle.std.proofs.lemmas.Grind.{get_or_default_zero}
use Rattle.std.proofs.lemmas.List.Elements.{All-get_or}
use Rattle.compose.specs.Labels.{classified_candidates}
use Rattle.compose.specs.Walk.{given_at, classified_feature}
use Rattle.compose.proofs.Mentions.{labelled-at, labelled-next}
use Rattle.compose.proofs.labelled_layer.add_features.Goals as goal

pub loop-index-preserved : goal.loop-index-preserved
loop-index-preserved c =
    let index : ℕ = get_or c.args.found.now c.loop-index.index-index 0 in
    let scene = c.args.scene.now in
    let candidates = classified_candidates scene.view scene.map.fonts in
    let features = c.args.layer.now.features in
    let classified = classified_feature scene.scale c.args.layer.now in
    let inside : index < length features = All-get_or (λ k. k < length features) c.args.found.now c.loop-index.index-index 0 c.loop-index-test.true c.requires in
    let added = rw c.get.ensures.value at c.in_ok-add_feature.ensures in
    labelled-next (given_at classified features) candidates c.args.found.now c.loop-index.index-index index c.args.labels.now c.loop-index.labels _
    c.loop-index-test.true (sym (get_or_default_zero c.args.found.now c.loop-index.index-index index c.loop-index-test.true)) c.loop-index.invariant
    (labelled-at classified candidates features index c.index-features-index.result _ _ inside (rw c.as_slice-features.ensures at c.index-features-index.is) added)
