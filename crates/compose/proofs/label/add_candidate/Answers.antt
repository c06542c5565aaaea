use Rattle.std.proofs.Common.{◌≡◌, ◌∙◌, ◌++◌, ◌∷◌, [], List, Some, ap, sym}
use Rattle.std.proofs.lemmas.Result.{on_ok_weaker}
use Rattle.labelcache.specs.Candidate.{CandidateValue}
use Rattle.mapdefs.specs.declared.feature.FeatureFields.{FeatureFields}
use Rattle.mapdefs.specs.declared.layer.LayerFields.{LayerFields}
use Rattle.compose.specs.Anchor.{shown_anchor}
use Rattle.compose.specs.Labels.{label_text, written_label}
use Rattle.compose.proofs.Labelling.{candidate-is}
use Rattle.compose.proofs.label.add_candidate.Goals as goal

pub returns-in-Some-shown_anchor : goal.returns-in-Some-shown_anchor
returns-in-Some-shown_anchor c =
    let scene = c.args.scene.now in
    let classified = c.args.classified.now in
    let text = c.label_text-text.result.now in
    let anchor = c.in-Some-shown_anchor.anchor in
    let label = c.in-Some.label.now in
    let labelled : written_label scene.map.fonts classified.class ≡ Some label = sym (rw (c.fonts.ensures, c.class.ensures) at c.in-Some.ensures.label) in
    let written : text ≡ label_text classified.layer classified.feature =
    c.label_text-text.ensures.text ∙ ap (λ (l : LayerFields). label_text l c.feature.result.now) c.layer.ensures ∙ ap (λ (f : FeatureFields). label_text classified.layer f) c.feature.ensures in
    let at : shown_anchor scene.view classified.layer.kind classified.feature ≡ Some anchor = sym (rw (c.layer-2.ensures, c.feature-2.ensures) at c.in-Some-shown_anchor.ensures.value) in
    let entry = rw c.factor.ensures at c.new.ensures in
    let are = candidate-is scene.view scene.map.fonts classified label text anchor labelled written (sym c.is_empty.ensures ∙ c.if-is_empty.false) at in
    on_ok_weaker c.add.result
    (λ more. more ∙ ap (λ (z : List CandidateValue). c.args.labels.now ++ z) (ap (λ (e : CandidateValue). e ∷ []) entry ∙ sym are))
    c.add.ensures.ok
