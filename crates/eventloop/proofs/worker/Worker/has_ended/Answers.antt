use Rattle.std.proofs.Common.{◌∙◌, sym}
use Rattle.eventloop.proofs.Looping.{all-free}
use Rattle.eventloop.proofs.worker.Worker.has_ended.Goals as goal

pub returns-clause-free : goal.returns-clause-free
returns-clause-free g c is = all-free c.match-ending.self.table (sym c.is_empty.ensures ∙ is)
