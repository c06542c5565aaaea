use Rattle.sharing.proofs.Answering.{answers_are_right}
use Rattle.sharing.proofs.Keeping.{keeps, grows}
use Rattle.mapmachine.specs.Machine.{IsAnswer}
use Rattle.batches.specs.Batch.{accepted}
use Rattle.mapshare.proofs.laws.shared.Goals as goal

pub returns-clause-answers : goal.returns-clause-answers
returns-clause-answers c = λ start. answers_are_right start accepted IsAnswer

pub returns-clause-keeps : goal.returns-clause-keeps
returns-clause-keeps c = λ start. keeps start accepted

pub returns-clause-grows : goal.returns-clause-grows
returns-clause-grows c = λ start. grows start accepted
