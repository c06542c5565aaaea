use Rattle.std.proofs.Common.{sym, ◌∙◌, ap, subst}
use Rattle.std.proofs.lemmas.Result.{on_ok_weaker}
use Rattle.mapdefs.specs.Near.{AreCandidatesOf}
use Rattle.mapdefs.specs.declared.map.MapFields.{MapFields}
use Rattle.compose.specs.Near.{margin_of}
use Rattle.compose.proofs.Classifying.{drawn-none}
use Rattle.compose.proofs.Sparing.{candidates-of, drawn-chosen, spared-drawing}
use Rattle.compose.proofs.paint.draw_layer.Goals as goal

pub returns-then-not-shows : goal.returns-then-not-shows
returns-then-not-shows g c =
    let hidden = sym c.shows.ensures ∙ c.if-not-shows.true in
    drawn-chosen c.args.scene.now c.args.index c.layer-layer.result.now _ _ c.layer-layer.ensures (rw hidden (drawn-none c.args.scene.now c.args.drawing.now))

pub returns : goal.returns
returns g c =
    let scene = c.args.scene.now in
    let layer = c.layer-layer.result.now in
    let found = c.in_ok-found.found.items in
    let shown = sym c.shows.ensures ∙ c.if-not-shows.false in
    let margin = c.margin_of-margin.ensures.value ∙ ap (λ symbols. margin_of c.factor.result symbols layer) c.symbols.ensures ∙ ap (λ factor. margin_of factor scene.map.symbols layer) c.factor.ensures in
    let near = subst (λ (m : MapFields). AreCandidatesOf m c.args.index c.window.result found) c.requires.near c.in_ok-found.ensures in
    let are = rw (c.window.ensures.value, margin) at (candidates-of scene.map c.args.index layer c.window.result found c.layer-layer.ensures near) in
    on_ok_weaker c.draw_features.result
    (λ p. drawn-chosen scene c.args.index layer _ _ c.layer-layer.ensures
    (rw shown (spared-drawing scene layer found _ _ c.window.ensures.limits
    c.requires.width c.requires.height c.requires.area are p)))
    (rw c.deref.ensures.value at c.draw_features.ensures)
