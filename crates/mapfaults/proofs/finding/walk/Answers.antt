use Rattle.std.proofs.Common.{◌∙◌, ap, sym, subst}
use Rattle.mapfaults.specs.declared.finding.Explained.{Explained}
use Rattle.mapfaults.specs.declared.finding.Finding.TheVariants as finding
use Rattle.mapfaults.specs.Explained.{IsWalked, standing}
use Rattle.mapfaults.proofs.Explaining.{walked-back, stopped-by}
use Rattle.mapfaults.proofs.finding.walk.Goals as goal

pub loop-token-preserved : goal.loop-token-preserved
loop-token-preserved c =
    let s = standing c.loop-token.walker.openings c.loop-token.walker.drafts in
    λ f p. c.loop-token.invariant f
    (subst (λ left. IsWalked s left f) (sym c.in-Ok.ensures.token)
    (walked-back s (standing c.take.new.self.openings c.take.new.self.drafts) c.in-Ok.token c.next.new.self f c.in-Ok-take.ensures p))

pub returns-in-Err-At : goal.returns-in-Err-At
returns-in-Err-At c =
    let s = standing c.loop-token.walker.openings c.loop-token.walker.drafts in
    c.loop-token.invariant (finding.Faulty c.stop.result)
    (subst (λ left. IsWalked s left (finding.Faulty c.stop.result)) (sym c.in-Ok.ensures.token)
    (stopped-by s c.in-Ok.token c.next.new.self c.stop.result c.in-Err-At.line c.in-Err-At.kind c.take.new.self.openings c.in-Err-At.field-0
    c.in-Err-At.field-0-is c.in-Err-At.ensures (ap (λ (e : Explained). e.line) c.stop.ensures ∙ c.in-Err-At.line-is) (ap (λ (e : Explained). e.kind) c.stop.ensures ∙ c.in-Err-At.kind-is)
    (ap (λ (e : Explained). e.openings) c.stop.ensures) (ap (λ (e : Explained). e.token) c.stop.ensures)))

pub returns-in-Err : goal.returns-in-Err
returns-in-Err c =
    let s = standing c.loop-token.walker.openings c.loop-token.walker.drafts in
    c.loop-token.invariant c.finish.result
    (subst (λ left. IsWalked s left c.finish.result) (sym c.in-Err.ensures.tail) c.finish.ensures)
