use Rattle.std.proofs.Common.{◌≡◌, ◌∙◌, ◌-◌, ◌≤◌, length, drop, sym, ap, subst, arith, min, List, ℕ}
use Rattle.httpedge.specs.Outgoing.{body_of}
use Rattle.httpedge.proofs.Outgoings.{parts-written, second-written}
use Rattle.httpedge.proofs.outgoing.Outgoing.sent.Goals as goal

pub overflow_add-self-2 : goal.overflow_add-self-2
overflow_add-self-2 c =
    let at : c.min-of_lines.result ≡ min c.args.count (length c.self.inside.head - c.self.inside.head_sent) = c.min-of_lines.ensures ∙ ap (λ n. min c.args.count (n - c.self.inside.head_sent)) c.len.ensures in
    let fits = second-written c.self.inside.head (body_of c.self.inside.body) c.self.inside.head_sent c.self.inside.body_sent c.args.count c.min-of_lines.result c.self.invariant.0 c.self.invariant.1
    (subst (λ (l : List ℕ). c.args.count ≤ length l) (sym c.self.view_is) c.requires) at in
    omega (arith, fits, c.body_slice-whole.type_inv.0, ap length c.body_slice-whole.ensures)

pub returns-else-self-whole : goal.returns-else-self-whole
returns-else-self-whole c =
    let at : c.min-of_lines.result ≡ min c.args.count (length c.self.inside.head - c.self.inside.head_sent) = c.min-of_lines.ensures ∙ ap (λ n. min c.args.count (n - c.self.inside.head_sent)) c.len.ensures in
    parts-written c.self.inside.head (body_of c.self.inside.body) c.self.inside.head_sent c.self.inside.body_sent c.args.count c.min-of_lines.result c.self.invariant.0 at
    ∙ ap (drop c.args.count) c.self.view_is
