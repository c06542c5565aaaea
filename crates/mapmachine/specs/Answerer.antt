-- The outcomes that a map machine may give to a query (docs/WMS.md, "HTTP").
use Rattle.std.specs.Prelude.{◌≡◌, ℕ, List, Result, IfOk}
use Rattle.answers.specs.declared.answer.Answer.{Answer}
use Rattle.answers.specs.declared.asks.Busy.{Busy}
use Rattle.batches.specs.Batch.{State}
use Rattle.mapmachine.specs.Machine.{IsAnswer}

-- a map machine gives its answer, or reports that it is out of memory; its state stays
abbrev pub machine_answers : State → List ℕ → Result Answer Busy → State → Type 0
machine_answers old query said new = (new ≡ old) × IfOk said (IsAnswer old query)
