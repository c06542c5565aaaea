use Rattle.std.proofs.Common.{◌∙◌, sym, subst, List, ℕ, true}
use Rattle.httpedge.specs.Exchange.{IsExchange}
use Rattle.httpedge.specs.Response.{HasStatus}
use Rattle.httpedge.specs.Serving.{requests_left, came_of}
use Rattle.httpedge.specs.Session.{says_as_listed}
use Rattle.httpedge.specs.declared.outcome.Outcome.TheVariants.{Refused}
use Rattle.httpedge.specs.declared.refusal.Refusal.TheVariants.{BadRequest}
use Rattle.httpedge.proofs.Sessions.{end-said, end-silent, end-target, has-status}
use Rattle.httpedge.proofs.session.end_reply.Goals as goal

pub returns-in-None-clause-answers : goal.returns-in-None-clause-answers
returns-in-None-clause-answers c =
    λ later. subst (λ (l : List ℕ). IsExchange says_as_listed (requests_left c.args.conn.now) (came_of c.args.conn.now.progress) later l later) (sym c.nothing.ensures)
    (end-silent says_as_listed c.args.conn.now c.end.new.self.progress later c.requires.reading c.end.ensures.ends (sym c.end.ensures.step ∙ c.in-None.is))

pub returns-in-None-clause-target : goal.returns-in-None-clause-target
returns-in-None-clause-target c = end-target c.args.conn.now.progress c.end.new.self.progress c.requires.reading.opened c.end.ensures.ends

pub returns-in-Some-clause-answers : goal.returns-in-Some-clause-answers
returns-in-Some-clause-answers c =
    λ later. subst (λ (l : List ℕ). IsExchange says_as_listed (requests_left c.args.conn.now) (came_of c.args.conn.now.progress) later l later) (sym c.of.ensures)
    (end-said says_as_listed c.args.conn.now c.end.new.self.progress c.in-Some.field-0 later c.requires.reading c.end.ensures.ends (sym c.end.ensures.step ∙ c.in-Some.is))

pub returns-in-Some-clause-status : goal.returns-in-Some-clause-status
returns-in-Some-clause-status c = λ owes. subst (λ (l : List ℕ). HasStatus l 400) (sym c.of.ensures) (has-status (Refused BadRequest) true)

pub returns-in-Some-clause-target : goal.returns-in-Some-clause-target
returns-in-Some-clause-target c = end-target c.args.conn.now.progress c.end.new.self.progress c.requires.reading.opened c.end.ensures.ends
