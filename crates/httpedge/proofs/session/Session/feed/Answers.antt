use Rattle.std.proofs.Common.{◌≡◌, ◌∙◌, ◌++◌, [], List, inl, refl, sym, ap, subst, append_assoc, append-nil, true, None, take}
use Rattle.httpedge.specs.Connection.{Course, settled, step_of, target_of}
use Rattle.httpedge.specs.Head.{IsTargetOf}
use Rattle.httpedge.specs.Serving.{came_of}
use Rattle.httpedge.specs.Session.{SessionState, HasRespondedAt, QueryOutcome, says_as_listed, wants}
use Rattle.httpedge.proofs.Courses.{decided-target, none-by}
use Rattle.httpedge.proofs.Sessions.{HasReplied, opened-by, reads-by, reads-more, responded-by, responded-more, replied-queries}
use Rattle.httpedge.proofs.Serving.{so_far}
use Rattle.httpedge.proofs.session.Session.feed.Goals as goal

pub invariant_of-self : goal.invariant_of-self
invariant_of-self g c =
    let wanted : wants c.args.self.now ≡ true = sym c.wants_more.ensures ∙ c.if-not-wants_more.false in
    let opened = opened-by c.args.self.now c.self.inside.conn c.next.new.self c.self.inside.outgoing c.self.inside.stage c.self.inside.status c.self.view_is c.next.ensures.forgets wanted c.self.invariant in
    let r : HasReplied g.A.Asks.answers c.args.piece.now c.feed-fed.result.taken c.next.new.self c.feed-fed.new.self c.args.asks.now c.reply-outgoing.result.0 c.reply-outgoing.new.asks =
    record { decision = c.in-Some.decision; reading = opened.reading; feeds = c.feed-fed.ensures.feeds; done = c.feed-fed.ensures.done; step = sym c.feed-fed.ensures.step ∙ c.in-Some.is; replies = c.reply-outgoing.ensures.replies } in
    reads-by g.A.Asks.answers c.args.piece.now c.feed-fed.result.taken c.next.new.self c.feed-fed.new.self c.args.asks.now c.reply-outgoing.new.asks c.reply-outgoing.result.0 r c.closing.result c.stage_after-self-inside.result c.closing.ensures c.stage_after-self-inside.ensures

pub invariant_of-self-in_default : goal.invariant_of-self-in_default
invariant_of-self-in_default g c =
    let wanted : wants c.args.self.now ≡ true = sym c.wants_more.ensures ∙ c.if-not-wants_more.false in
    let opened = opened-by c.args.self.now c.self.inside.conn c.next.new.self c.self.inside.outgoing c.self.inside.stage c.self.inside.status c.self.view_is c.next.ensures.forgets wanted c.self.invariant in
    let step : step_of c.feed-fed.new.self.progress ≡ None = sym c.feed-fed.ensures.step ∙ none-by _ c.in_default.not-Some in
    let stage : c.self.inside.stage ≡ c.args.self.now.stage = ap (λ (t : SessionState). t.stage) c.self.view_is in
    reads-more c.args.self.now c.next.new.self c.feed-fed.new.self opened c.args.piece.now c.feed-fed.result.taken c.self.inside.stage stage c.feed-fed.ensures.feeds c.feed-fed.ensures.done step

pub returns-in-Some-clause-named : goal.returns-in-Some-clause-named
returns-in-Some-clause-named g c =
    let wanted : wants c.args.self.now ≡ true = sym c.wants_more.ensures ∙ c.if-not-wants_more.false in
    let opened = opened-by c.args.self.now c.self.inside.conn c.next.new.self c.self.inside.outgoing c.self.inside.stage c.self.inside.status c.self.view_is c.next.ensures.forgets wanted c.self.invariant in
    λ _ owes. (
      subst (λ (k : Course). IsTargetOf (came_of k.progress ++ take c.feed-fed.result.taken c.args.piece.now) (target_of c.feed-fed.new.self.progress)) (sym opened.at)
          (decided-target c.next.new.self.progress c.feed-fed.new.self.progress c.args.piece.now c.feed-fed.result.taken c.in-Some.decision opened.reading.opened c.feed-fed.ensures.feeds (sym c.feed-fed.ensures.step ∙ c.in-Some.is)),
      c.reply-outgoing.ensures.status,
    )

pub returns-in-Some-clause-responded : goal.returns-in-Some-clause-responded
returns-in-Some-clause-responded g c =
    let wanted : wants c.args.self.now ≡ true = sym c.wants_more.ensures ∙ c.if-not-wants_more.false in
    let opened = opened-by c.args.self.now c.self.inside.conn c.next.new.self c.self.inside.outgoing c.self.inside.stage c.self.inside.status c.self.view_is c.next.ensures.forgets wanted c.self.invariant in
    let r : HasReplied g.A.Asks.answers c.args.piece.now c.feed-fed.result.taken c.next.new.self c.feed-fed.new.self c.args.asks.now c.reply-outgoing.result.0 c.reply-outgoing.new.asks =
    record { decision = c.in-Some.decision; reading = opened.reading; feeds = c.feed-fed.ensures.feeds; done = c.feed-fed.ensures.done; step = sym c.feed-fed.ensures.step ∙ c.in-Some.is; replies = c.reply-outgoing.ensures.replies } in
    responded-by g.A.Asks.answers c.args.self.now c.next.new.self c.feed-fed.new.self opened c.args.piece.now c.feed-fed.result.taken c.args.asks.now c.reply-outgoing.new.asks c.reply-outgoing.result.0 r
    c.closing.result c.stage_after-self-inside.result c.closing.ensures c.stage_after-self-inside.ensures

pub returns-in-Some-clause-said : goal.returns-in-Some-clause-said
returns-in-Some-clause-said g c =
    let wanted : wants c.args.self.now ≡ true = sym c.wants_more.ensures ∙ c.if-not-wants_more.false in
    let opened = opened-by c.args.self.now c.self.inside.conn c.next.new.self c.self.inside.outgoing c.self.inside.stage c.self.inside.status c.self.view_is c.next.ensures.forgets wanted c.self.invariant in
    let r : HasReplied g.A.Asks.answers c.args.piece.now c.feed-fed.result.taken c.next.new.self c.feed-fed.new.self c.args.asks.now c.reply-outgoing.result.0 c.reply-outgoing.new.asks =
    record { decision = c.in-Some.decision; reading = opened.reading; feeds = c.feed-fed.ensures.feeds; done = c.feed-fed.ensures.done; step = sym c.feed-fed.ensures.step ∙ c.in-Some.is; replies = c.reply-outgoing.ensures.replies } in
    let (queries, asked, replied) = replied-queries g.A.Asks.answers c.args.piece.now c.feed-fed.result.taken c.next.new.self c.feed-fed.new.self c.args.asks.now c.reply-outgoing.new.asks c.reply-outgoing.result.0 r in (
      queries,
      asked,
      λ read written earlier responded later.
          subst (λ (first : List QueryOutcome). HasRespondedAt c.stage_after-self-inside.result says_as_listed (so_far (read ++ take c.feed-fed.result.taken c.args.piece.now) first (written ++ c.reply-outgoing.result.0)) (settled c.feed-fed.new.self) later)
          (sym (append_assoc earlier queries later))
          (responded-by says_as_listed c.args.self.now c.next.new.self c.feed-fed.new.self opened c.args.piece.now c.feed-fed.result.taken (queries ++ later) later c.reply-outgoing.result.0 (replied later)
          c.closing.result c.stage_after-self-inside.result c.closing.ensures c.stage_after-self-inside.ensures read written (earlier ++ (queries ++ later)) (responded (queries ++ later))),
    )

pub returns-in_default-clause-said : goal.returns-in_default-clause-said
returns-in_default-clause-said g c =
    let wanted : wants c.args.self.now ≡ true = sym c.wants_more.ensures ∙ c.if-not-wants_more.false in
    let opened = opened-by c.args.self.now c.self.inside.conn c.next.new.self c.self.inside.outgoing c.self.inside.stage c.self.inside.status c.self.view_is c.next.ensures.forgets wanted c.self.invariant in
    let step : step_of c.feed-fed.new.self.progress ≡ None = sym c.feed-fed.ensures.step ∙ none-by _ c.in_default.not-Some in
    let stage : c.self.inside.stage ≡ c.args.self.now.stage = ap (λ (t : SessionState). t.stage) c.self.view_is in
    let out : c.self.inside.outgoing ≡ c.args.self.now.outgoing = ap (λ (t : SessionState). t.outgoing) c.self.view_is in (
      [],
      inl (refl, refl),
      λ read written earlier responded later.
          subst (λ (first : List QueryOutcome). HasRespondedAt c.self.inside.stage says_as_listed (so_far (read ++ take c.feed-fed.result.taken c.args.piece.now) (first ++ later) (written ++ c.self.inside.outgoing)) (settled c.feed-fed.new.self) later)
          (sym (append-nil earlier))
          (responded-more says_as_listed c.args.self.now c.next.new.self c.feed-fed.new.self opened c.args.piece.now c.feed-fed.result.taken c.self.inside.stage c.self.inside.outgoing later stage out
          c.feed-fed.ensures.feeds c.feed-fed.ensures.done step read written (earlier ++ later) (responded later)),
    )
