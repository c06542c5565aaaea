use Rattle.std.proofs.Common.{◌≡◌, ◌∙◌, ◌∷◌, [], ◌++◌, List, Option, ap, rules}
use Rattle.std.specs.Option.{option_map_or}
use Rattle.geom.specs.Device.{PixelValue}
use Rattle.labelcache.specs.Anchors.{anchors_of}
use Rattle.labelcache.proofs.Noting.{err-then, noted-more, noted-same, ok-then}
use Rattle.labelcache.proofs.anchors.note.Goals as goal

pub returns-in-Some-clause-ok : goal.returns-in-Some-clause-ok
returns-in-Some-clause-ok c =
    let old = c.in-Some.anchors.now in
    let is : old ≡ anchors_of c.args.texts.now c.args.text.now = ap (λ (v : Option (List PixelValue)). option_map_or (λ ps. ps) v []) c.in-Some.ensures.value in
    ok-then c.add.result
    (λ (e : c.add.new.self ≡ old ++ c.args.anchor ∷ []).
    noted-more c.args.texts.now (c.get_mut.follows.lender c.add.new.self) c.args.text.now old c.add.new.self c.args.anchor
    ((c.get_mut.follows.holds c.add.new.self).3 (search rules)) e is)
    c.add.ensures.ok

pub returns-in-Some-clause-err : goal.returns-in-Some-clause-err
returns-in-Some-clause-err c =
    let old = c.in-Some.anchors.now in
    let is : old ≡ anchors_of c.args.texts.now c.args.text.now = ap (λ (v : Option (List PixelValue)). option_map_or (λ ps. ps) v []) c.in-Some.ensures.value in
    err-then c.add.result
    (λ (e : c.add.new.self ≡ old).
    noted-same c.args.texts.now (c.get_mut.follows.lender c.add.new.self) c.args.text.now c.add.new.self
    ((c.get_mut.follows.holds c.add.new.self).3 (search rules)) (e ∙ is))
    c.add.ensures.err
