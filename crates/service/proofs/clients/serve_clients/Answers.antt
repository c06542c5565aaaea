use Rattle.std.proofs.Common.{◌≡◌, ◌∙◌, Some, ap, length, refl}
use Rattle.service.proofs.Timing.{have-served}
use Rattle.service.proofs.clients.serve_clients.Goals as goal

pub returns-in-Some-clause-clients : goal.returns-in-Some-clause-clients
returns-in-Some-clause-clients g c =
    let began = rw c.in_ok-workers.was at c.start_workers-started.ensures.began in
    let started : length c.in_ok-workers.workers.threads.items ≡ c.args.side.service.workers = rw c.in_ok-workers.was at c.start_workers-started.ensures.all in
    record {
      workers = Some c.in-Some._workers.items;
      well = λ fine. refl;
      served = have-served g.S.Sharing.opening _ c.args.side.service began.0 began.1 c.in-Some._workers.items
          (c.in-Some.ensures.all ∙ (ap (λ t. length t.items) c.accept_all-served.ensures.threads ∙ started))
          c.in-Some.ensures.served (c.in-Some.ensures.times began.0 (rw c.accept_all-served.ensures.threads began.2));
    }
