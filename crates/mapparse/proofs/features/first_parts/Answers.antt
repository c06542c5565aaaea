use Rattle.std.proofs.Common.{◌≡◌, ◌∙◌, take, map, sym, ap, subst, IfOk}
use Rattle.std.proofs.lemmas.List.{take-map}
use Rattle.mapparse.proofs.features.first_parts.Goals as goal

pub returns : goal.returns
returns c =
    subst (λ kept. IfOk c.copies_of.result (λ made. made ≡ kept))
    (ap (map (λ x. x.now)) (c.deref.ensures.value ∙ c.truncate.ensures.items) ∙ sym (take-map (λ x. x.now) c.args.count c.in_ok-parts.parts.items)
    ∙ ap (take c.args.count) c.in_ok-parts.ensures) c.copies_of.ensures
