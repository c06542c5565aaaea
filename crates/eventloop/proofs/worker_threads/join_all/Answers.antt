use Rattle.std.proofs.Common.{rules, arith, ◌≡◌, ◌∙◌, ◌+◌, List, [], ◌∷◌, ◌++◌, length, length-append, All, ap, sym, Some}
use Rattle.std.proofs.lemmas.List.Elements.{All-pop, All-push}
use Rattle.eventloop.proofs.Promised.{each-so, none-found, one-more}
use Rattle.eventloop.specs.Rounds.{HasBeen}
use Rattle.turns.specs.Table.{timeouts_of}
use Rattle.eventloop.proofs.worker_threads.join_all.Goals as goal

pub loop-thread-preserved : goal.loop-thread-preserved
loop-thread-preserved g c =
    let more = c.with_one_more-ended.ensures in
    record {
      served = λ old. one-more (λ workers. workers.items) c.join-worker.result _ _ (λ xs is. All-push (HasBeen g.A.Asks.answers g.T.Transport) xs c.join-worker.result is c.join-worker.ensures.0) _ _ more.more more.some
          (c.loop-thread.invariant.served old);
      times = λ times began old.
          let was = c.loop-thread.invariant.times times began old in
          let left = All-pop (λ thread. timeouts_of thread.promise.begun.value.table ≡ times) _ _ (Some c.in-Some.thread) c.in-Some.ensures.items was.0 in (
            left.0,
            one-more (λ workers. workers.items) c.join-worker.result _ _ (λ xs is. All-push (λ worker. timeouts_of worker.table ≡ times) xs c.join-worker.result is (c.join-worker.ensures.1 ∙ left.1)) _ _ more.more more.some was.1,
          );
      all =
          let fewer = ap length c.in-Some.ensures.items ∙ length-append c.pop.new.self.items (c.in-Some.thread ∷ []) in
          one-more (λ workers. workers.items) c.join-worker.result (λ xs. length xs + length c.loop-thread.threads.items ≡ length c.args.ended.items + length c.args.threads.items)
          (λ xs. length xs + length c.pop.new.self.items ≡ length c.args.ended.items + length c.args.threads.items)
          (λ xs is. let longer = length-append xs (c.join-worker.result ∷ []) in omega (arith, fewer, longer, is)) _ _ more.more more.some c.loop-thread.invariant.all;
    }

pub returns : goal.returns
returns g c = record {
  served = c.loop-thread.invariant.served;
  times = λ times began old. (c.loop-thread.invariant.times times began old).1;
  all = each-so _ _ (λ workers all. let none = none-found c.pop.result _ _ c.in_default.not-Some c.pop.ensures.cases in omega (arith, none.0, all)) c.loop-thread.ended c.loop-thread.invariant.all;
}
