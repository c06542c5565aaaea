-- An answer to what a query means is an answer to the query.
use Rattle.std.proofs.Common.{ℕ, List, Result, Ok, Err, IfOk}
use Rattle.batches.specs.Batch.{State}
use Rattle.wmsquery.specs.Meaning.{IsMeaning}
use Rattle.wmsquery.specs.declared.fault.WmsFault.{WmsFault}
use Rattle.wmsquery.specs.declared.request.Request.{Request}
use Rattle.mapmachine.specs.Machine.{Answers, IsAnswer}
use Rattle.answers.specs.declared.answer.Answer.{Answer}

-- an answer to the meaning is one to the query
pub answered : {E : Type 0} (state : State) (query : List ℕ) (meaning : Result Request WmsFault) (answer : Result Answer E) →
    IsMeaning state.map state.sequence query meaning → IfOk answer (Answers state meaning) → IfOk answer (IsAnswer state query)
answered state query meaning (Ok answer) meant answers = (meaning, meant, answers)
answered state query meaning (Err e) meant answers = answers
