-- The outcomes that a reader of a shared map may give to a query (docs/WMS.md, "HTTP").
use Rattle.std.specs.Prelude.{◌≡◌, ℕ, true, List, Result, IfOk}
use mathlib.Core.List.{IsPrefix}
use Rattle.answers.specs.declared.answer.Answer.{Answer}
use Rattle.answers.specs.declared.asks.Busy.{Busy}
use Rattle.batches.specs.Batch.{State, accepted}
use Rattle.mapmachine.specs.Machine.{IsAnswer}
use Rattle.mapshare.specs.Reader.{ReaderValue}
use Rattle.sharing.specs.Reply.{IsAnswerAfter}

-- a reader of a shared map gives the answer of the machine after some batches. These batches begin with all that the reader knew to be
-- published, and it knows them from then on. Or it reports that there is no answer now. A reader that may enter may enter again
abbrev pub reader_answers : State → ReaderValue → List ℕ → Result Answer Busy → ReaderValue → Type 0
reader_answers opening old query said new =
    IsPrefix old.known new.known × (old.is_free ≡ true → new.is_free ≡ true)
    × IfOk said (λ answer. IsAnswerAfter opening accepted IsAnswer query answer new.known)
