use Rattle.std.proofs.Common.{◌∙◌, ℕ, sym, subst}
use Rattle.httpedge.specs.Connection.{Course, settled, target_of}
use Rattle.httpedge.specs.Head.{IsTargetOf}
use Rattle.httpedge.specs.Response.{HasStatus}
use Rattle.httpedge.specs.Serving.{came_of}
use Rattle.httpedge.proofs.Sessions.{opened-by, responded-ended}
use Rattle.httpedge.proofs.session.Session.end.Goals as goal

pub returns-clause-named : goal.returns-clause-named
returns-clause-named c =
    let opened = opened-by c.args.self.now c.self.inside.conn c.next.new.self c.self.inside.outgoing c.self.inside.stage c.self.inside.status c.self.view_is c.next.ensures.forgets c.requires.wanted c.self.invariant in
    λ owes. (
      subst (λ (k : Course). IsTargetOf (came_of k.progress) (target_of c.end_reply.new.conn.progress)) (sym opened.at) c.end_reply.ensures.target,
      subst (λ (n : ℕ). HasStatus c.end_reply.result n) (sym (c.as_u16-self-inside.ensures.value ∙ c.status.ensures)) (c.end_reply.ensures.status owes),
    )

pub returns-clause-said : goal.returns-clause-said
returns-clause-said c =
    let opened = opened-by c.args.self.now c.self.inside.conn c.next.new.self c.self.inside.outgoing c.self.inside.stage c.self.inside.status c.self.view_is c.next.ensures.forgets c.requires.wanted c.self.invariant in
    responded-ended c.args.self.now c.next.new.self (settled c.end_reply.new.conn) opened c.end_reply.result c.end_reply.ensures.answers
