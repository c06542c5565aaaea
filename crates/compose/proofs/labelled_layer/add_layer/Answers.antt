use Rattle.std.proofs.Common.{sym, ◌∙◌, subst}
use Rattle.std.proofs.lemmas.Result.{on_ok_weaker}
use Rattle.mapdefs.specs.Near.{AreCandidatesOf}
use Rattle.mapdefs.specs.declared.map.MapFields.{MapFields}
use Rattle.compose.proofs.Mentions.{found-layer, hidden-layer, unlabelled-layer}
use Rattle.compose.proofs.Sparing.{candidates-of}
use Rattle.compose.proofs.labelled_layer.add_layer.Goals as goal

pub returns-then-not-shows : goal.returns-then-not-shows
returns-then-not-shows g c =
    hidden-layer c.args.scene.now c.args.index c.layer-layer.result.now c.args.labels.now c.layer-layer.ensures (sym c.shows.ensures ∙ c.if-not-shows.true)

pub returns-then-not-has_labels : goal.returns-then-not-has_labels
returns-then-not-has_labels g c =
    unlabelled-layer c.args.scene.now c.args.index c.layer-layer.result.now c.args.labels.now c.layer-layer.ensures (sym c.shows.ensures ∙ c.if-not-shows.false)
    (sym c.has_labels.ensures ∙ c.if-not-has_labels.true)

pub returns : goal.returns
returns g c =
    let scene = c.args.scene.now in
    let layer = c.layer-layer.result.now in
    let found = c.in_ok-found.found.items in
    let shown = sym c.shows.ensures ∙ c.if-not-shows.false in
    let near = subst (λ (m : MapFields). AreCandidatesOf m c.args.index c.window.result found) c.requires.near c.in_ok-found.ensures in
    let are = rw c.window.ensures.value at (candidates-of scene.map c.args.index layer c.window.result found c.layer-layer.ensures near) in
    on_ok_weaker c.add_features.result
    (λ p. found-layer scene c.args.index layer found _ _ c.layer-layer.ensures shown c.window.ensures.limits are p)
    (rw c.deref.ensures.value at c.add_features.ensures)
