use Rattle.std.proofs.Common.{◌∙◌, ap, sym, subst}
use Rattle.maplex.specs.Lexed.{stopped}
use Rattle.mapfaults.specs.declared.finding.Explained.{Explained}
use Rattle.mapfaults.specs.declared.finding.Finding.TheVariants as finding
use Rattle.mapfaults.specs.Explained.{IsWalked, fault_in, standing}
use Rattle.mapfaults.proofs.Explaining.{sound-here, ends-here, breaks-here}
use Rattle.mapfaults.proofs.finding.Walker.finish.Goals as goal

pub returns-then-is_empty : goal.returns-then-is_empty
returns-then-is_empty c =
    let s = standing c.args.self.now.openings c.args.self.now.drafts in
    subst (λ tail. IsWalked s (stopped tail) finding.Sound) (sym c.in-Ends.is)
    (sound-here s c.in-Ends.line (sym c.is_empty.ensures ∙ c.if-is_empty.true))

pub returns-else-is_empty : goal.returns-else-is_empty
returns-else-is_empty c =
    let s = standing c.args.self.now.openings c.args.self.now.drafts in
    subst (λ tail. IsWalked s (stopped tail) (finding.Faulty c.stop.result)) (sym c.in-Ends.is)
    (ends-here s c.in-Ends.line c.stop.result (sym c.is_empty.ensures ∙ c.if-is_empty.false) (ap fault_in c.stop.ensures)
    (ap (λ (e : Explained). e.openings) c.stop.ensures) (ap (λ (e : Explained). e.token) c.stop.ensures))

pub returns-in-Breaks : goal.returns-in-Breaks
returns-in-Breaks c =
    let s = standing c.args.self.now.openings c.args.self.now.drafts in
    subst (λ tail. IsWalked s (stopped tail) (finding.Faulty c.stop-in-Breaks.result)) (sym c.in-Breaks.is)
    (breaks-here s c.in-Breaks.fault c.stop-in-Breaks.result (ap fault_in c.stop-in-Breaks.ensures)
    (ap (λ (e : Explained). e.openings) c.stop-in-Breaks.ensures) (ap (λ (e : Explained). e.token) c.stop-in-Breaks.ensures))
