use Rattle.eventloop.proofs.Working.{run-times}
use Rattle.eventloop.specs.Working.{state}
use Rattle.eventloop.proofs.worker_threads.run_whole.Goals as goal

pub returns : goal.returns
returns g c = record {
  been = record {
    start = c.args.fresh.worker;
    free = c.args.fresh.free;
    finished = c.run.ensures.finished;
    ran = c.run.ensures.run;
    left = c.run.ensures.free;
  };
  times = run-times g.A.Asks.answers g.T.Transport (state c.args.fresh.worker) (state c.run.result) c.run.ensures.run;
}
