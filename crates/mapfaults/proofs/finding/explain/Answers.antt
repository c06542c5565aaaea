use Rattle.std.proofs.Common.{◌∙◌, sym, subst}
use Rattle.mapfaults.specs.Explained.{IsFinding, IsWalked}
use Rattle.mapfaults.proofs.Explaining.{after-map}
use Rattle.mapfaults.proofs.finding.explain.Goals as goal

pub returns-in-Ok-new : goal.returns-in-Ok-new
returns-in-Ok-new c =
    subst (λ left. IsFinding left c.walk-found.result) (sym c.in-Ok.ensures.token ∙ c.new-tokens.ensures)
    (after-map c.in-Ok.token c.next.new.self c.walk-found.result (sym c.is_at.ensures ∙ c.if-is_at.true)
    (subst (λ s. IsWalked s c.next.new.self c.walk-found.result) c.in-Ok-new.ensures c.walk-found.ensures))
