use Rattle.std.proofs.Common.{ℕ, ◌<◌, [], get_or, length, sym}
use Rattle.std.proofs.lemmas.Grind.{get_or_default_zero}
use Rattle.std.proofs.lemmas.List.Elements.{All-get_or}
use Rattle.compose.specs.Labels.{classified_candidates}
use Rattle.compose.specs.Walk.{classified_chosen}
use Rattle.compose.proofs.Mentions.{labelled-next}
use Rattle.compose.proofs.labels.candidates_of.Goals as goal

pub loop-index-init : goal.loop-index-init
loop-index-init g c = c.new-labels.ensures

pub add_layer-requires-clause-index : goal.add_layer-requires-clause-index
add_layer-requires-clause-index g c = All-get_or (λ index. index < length c.args.scene.now.map.layers) c.args.chosen.now c.loop-index.index-index 0 c.loop-index-test.true c.requires.layers

pub loop-index-preserved : goal.loop-index-preserved
loop-index-preserved g c =
    let scene = c.args.scene.now in
    let index : ℕ = get_or c.args.chosen.now c.loop-index.index-index 0 in
    labelled-next (classified_chosen scene.scale scene.map) (classified_candidates scene.view scene.map.fonts) c.args.chosen.now c.loop-index.index-index index [] c.loop-index.labels _
    c.loop-index-test.true (sym (get_or_default_zero c.args.chosen.now c.loop-index.index-index index c.loop-index-test.true)) c.loop-index.invariant c.in_ok-add_layer.ensures
