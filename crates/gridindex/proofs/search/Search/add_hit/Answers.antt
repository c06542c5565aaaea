use Rattle.std.proofs.Common.{refl}
use Rattle.gridindex.specs.Window.{MeetsAt}
use Rattle.gridindex.proofs.InOrder.{first-hit, first-miss}
use Rattle.gridindex.proofs.search.Search.add_hit.Goals as goal

pub returns-in_ok-push : goal.returns-in_ok-push
returns-in_ok-push c = λ so.
    rw c.in_ok-push.ensures.items (first-hit c.args.self.now.window c.args.self.now.boxes.now c.args.index c.args.found.now.items (c.if-is_hit.ensures.0 refl) so)

pub returns-else-is_hit : goal.returns-else-is_hit
returns-else-is_hit c = λ so.
    first-miss c.args.self.now.window c.args.self.now.boxes.now c.args.index c.args.found.now.items (λ (m : MeetsAt c.args.self.now.window c.args.self.now.boxes.now c.args.index). let bad = c.if-is_hit.ensures.1 m in absurd (cc)) so
