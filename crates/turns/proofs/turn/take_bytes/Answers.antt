use Rattle.std.proofs.Common.{◌∙◌, ◌++◌, take, drop, ap, subst, List, ℕ}
use Rattle.std.proofs.Math.Seq.{drop-nil}
use Rattle.httpedge.specs.Session.{HasRespondedWith}
use Rattle.turns.proofs.Advancing.{fed-more}
use Rattle.turns.proofs.turn.take_bytes.Goals as goal

pub returns-clause-said : goal.returns-clause-said
returns-clause-said g c =
    let (queries, asked, all) = c.feed-count.ensures.said in
    let buffer = c.args.exchange.now.buffer in
    let n = c.feed-count.result in (
      queries,
      asked,
      λ read written earlier holds.
          let (front, is, responded, ended) = holds in (
            front ++ take n buffer,
            rw (c.consume.ensures) (fed-more read front buffer n is),
            subst (λ (l : List ℕ). HasRespondedWith (front ++ take n l) (earlier ++ queries) written c.feed-count.new.self) c.bytes.ensures (all front written earlier responded),
            (λ e. c.consume.ensures ∙ (ap (drop n) (ended (c.feed-count.ensures.goes_on e)) ∙ drop-nil n)),
          ),
    )
