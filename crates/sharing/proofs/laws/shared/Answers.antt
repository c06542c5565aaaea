use Rattle.sharing.proofs.Answering.{answers_are_right}
use Rattle.sharing.proofs.Keeping.{keeps, grows}
use Rattle.sharing.proofs.laws.shared.Goals as goal

pub returns-clause-answers : goal.returns-clause-answers
returns-clause-answers g c = answers_are_right g.M.Machine.start g.M.Machine.batch g.M.Machine.answers

pub returns-clause-keeps : goal.returns-clause-keeps
returns-clause-keeps g c = keeps g.M.Machine.start g.M.Machine.batch

pub returns-clause-grows : goal.returns-clause-grows
returns-clause-grows g c = grows g.M.Machine.start g.M.Machine.batch
