use Rattle.std.proofs.Common.{◌∙◌, sym, ⊎_elim}
use Rattle.std.proofs.lemmas.Bool.{false≢true}
use Rattle.labelcache.specs.Anchors.{IsAnchorNear}
use Rattle.labelcache.proofs.SameText.{any-cases, any-right}
use Rattle.labelcache.proofs.text_anchors.TextAnchors.has_near.Goals as goal

pub returns : goal.returns
returns c =
    let first = c.self.inside.first.items in
    let others = c.self.inside.others in
    let near = IsAnchorNear c.args.anchor c.args.distance in
    let none = rw c.deref.ensures.value at c.has_close.ensures in
    rw (← c.self.view_is) (
      λ h. any-right near first others (c.has_near.ensures.0 h),
      λ a. ⊎_elim
          (λ early. absurd (false≢true (sym c.if-has_close.false ∙ none.1 early)))
          (λ late. c.has_near.ensures.1 late)
          (any-cases near first others a),
    )
