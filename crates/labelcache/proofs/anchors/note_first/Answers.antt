use Rattle.std.proofs.Common.{◌≡◌, [], ◌∷◌, ◌++◌, sym}
use Rattle.std.specs.String.{string_bytes}
use Rattle.labelcache.proofs.Noting.{noted-more}
use Rattle.labelcache.proofs.anchors.note_first.Goals as goal

pub returns-in-Ok-clause-ok : goal.returns-in-Ok-clause-ok
returns-in-Ok-clause-ok c =
    let key : string_bytes c.in_ok-key.key ≡ c.args.text.now = c.in_ok-key.ensures.ok in
    let one : c.add.new.self ≡ [] ++ c.args.anchor ∷ [] = rw c.new-anchors.ensures at c.in_ok-add.ensures.ok in
    rw (← key)
    (noted-more c.args.texts.now c.insert.new.self (string_bytes c.in_ok-key.key) [] c.add.new.self c.args.anchor
    c.in-Ok.ensures.updates one (rw key (sym c.requires.none)))
