use Rattle.std.proofs.Common.{◌≡◌, ◌∙◌, [], List, Option, ap, sym}
use Rattle.std.proofs.lemmas.Bool.{false≢true}
use Rattle.std.specs.Option.{option_map_or}
use Rattle.geom.specs.Device.{PixelValue}
use Rattle.labelcache.specs.Anchors.{anchors_of, anchors_with}
use Rattle.labelcache.proofs.SameText.{near-place, none-any, place-near}
use Rattle.labelcache.proofs.anchors.Anchors.finds.Goals as goal

pub returns-in-Some : goal.returns-in-Some
returns-in-Some c =
    let candidate = c.args.candidate.now in
    let placed = c.self.inside.placed.items in
    let found : c.in-Some.anchors.now ≡ anchors_of c.self.inside.texts c.text.result.now =
    ap (λ (v : Option (List PixelValue)). option_map_or (λ ps. ps) v []) c.in-Some.ensures.value in
    let is : c.in-Some.anchors.now ≡ anchors_with candidate.text placed = found ∙ rw c.text.ensures.value (c.self.invariant candidate.text) in
    let near = rw (c.anchor.ensures.value, c.distance.ensures, is) at c.has_near.ensures in
    rw (← c.self.view_is) (λ h. place-near candidate placed (near.0 h), λ a. near.1 (near-place candidate placed a))

pub returns-in-None : goal.returns-in-None
returns-in-None c =
    let candidate = c.args.candidate.now in
    let placed = c.self.inside.placed.items in
    let found : [] ≡ anchors_of c.self.inside.texts c.text.result.now =
    ap (λ (v : Option (List PixelValue)). option_map_or (λ ps. ps) v []) c.in-None.ensures.value in
    let is : anchors_with candidate.text placed ≡ [] = sym (found ∙ rw c.text.ensures.value (c.self.invariant candidate.text)) in
    rw (← c.self.view_is) (λ h. absurd (false≢true h), λ a. absurd (none-any (rw is at (near-place candidate placed a))))
