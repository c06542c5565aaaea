use Rattle.std.proofs.Common.{◌≡◌, ◌∙◌, ℕ, ◌+◌, List, ap, subst}
use Rattle.std.proofs.lemmas.Result.{IfOk-weaker}
use Rattle.geom.specs.World.{Area}
use Rattle.mapdefs.specs.Near.{AreCandidates, AreCandidatesOf}
use Rattle.mapdefs.specs.declared.map.MapFields.{MapFields}
use Rattle.mapdefs.specs.declared.layer.LayerFields.{LayerFields}
use Rattle.scene.specs.Scene.{SceneValue}
use Rattle.viewport.specs.View.{window}
use Rattle.featureinfo.specs.Hits.{AreFirstAmong, AreHitsOf, IsHitAt}
use Rattle.featureinfo.proofs.InWindow.{first-of-all}
use Rattle.featureinfo.proofs.layer_hits.hits_in.Goals as goal

pub returns : goal.returns
returns g c =
    let scene : SceneValue = c.args.scene.now in
    let layer : LayerFields = c.layer-fields.result.now in
    let asked = c.args.asked in
    let found : List ℕ = c.in_ok-found.found.items in
    let area : Area = window scene.view (layer.tolerance + 1) in
    let same : c.window.result ≡ area = c.window.ensures.value ∙ ap (λ n. window scene.view (n + 1)) c.from-margin.ensures in
    let of-map : AreCandidatesOf scene.map c.args.asked.layer area found =
    subst (λ (w : Area). AreCandidatesOf scene.map c.args.asked.layer w found) same
    (subst (λ (m : MapFields). AreCandidatesOf m c.args.asked.layer c.window.result found) c.requires.near c.in_ok-found.ensures) in
    let candidates : AreCandidates layer.features area found = rw c.layer-fields.ensures at of-map in
    IfOk-weaker c.first_hits.result (AreFirstAmong (IsHitAt scene layer asked.column asked.row) asked.count found) (AreHitsOf scene c.args.asked.layer asked.column asked.row asked.count)
    (λ hits first. rw c.layer-fields.ensures
    (first-of-all scene layer asked.column asked.row asked.count found hits c.window.ensures.limits candidates first))
    c.first_hits.ensures
