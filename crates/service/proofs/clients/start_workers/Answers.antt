use Rattle.service.proofs.clients.start_workers.Goals as goal

pub returns-in-Ok-start_all-clause-began : goal.returns-in-Ok-start_all-clause-began
returns-in-Ok-start_all-clause-began g c =
    let times = c.capacity_of-capacity.result.timeouts in
    (times, c.capacity_of-capacity.ensures.timed, c.start_all.ensures.began (c.in-Ok.ensures.began times))
