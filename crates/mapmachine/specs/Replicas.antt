-- Machines that began alike and published equal lists of batches, as servers that follow one log (docs/SERVICE.md, "The machine").
use Rattle.std.specs.Prelude.{◌≡◌, ℕ, List, [], ◌∷◌}
use Rattle.batches.specs.Batch.{State}
use Rattle.mapdefs.specs.declared.smooth_picture.SmoothFields.{SmoothFields}
use Rattle.wmsquery.specs.declared.request.Format.TheVariants as format
use Rattle.mapmachine.specs.Machine.{IsAnswer, IsWrittenPicture, Runs}
use Rattle.answers.specs.declared.answer.Answer.{Answer}
use Rattle.mapmachine.specs.declared.reply.Event.{Event}
use Rattle.mapmachine.specs.declared.reply.Event.TheVariants.{Batch}
use Rattle.mapmachine.specs.declared.reply.Reply.{Reply}
use Rattle.mapmachine.specs.declared.reply.Reply.TheVariants.{Published}

-- the batches that a run published, in order
unfoldable pub published_batches : List Event → List Reply → List (List ℕ)
published_batches (Batch bytes ∷ events) (Published sequence ∷ replies) = bytes ∷ published_batches events replies
published_batches (event ∷ events) (reply ∷ replies) = published_batches events replies
published_batches events replies = []

-- two answers are alike: the same bytes, but of PNG the same picture
pub data AreAlike : Answer → Answer → Type 0 where
  equal_answers : (answer : Answer) → AreAlike answer answer
  equal_pictures : (picture : SmoothFields) (a b : Answer) → IsWrittenPicture format.Png picture a → IsWrittenPicture format.Png picture b → AreAlike a b

-- the law: two machines that began alike and published equal lists of batches have one state, whatever else came to each, and where
-- both answer a query their answers are alike
abbrev pub ReplicasAnswerAlike : Type 0
ReplicasAnswerAlike = (old one other : State) (events theirs : List Event) (replies answers : List Reply) →
    Runs old events replies one → Runs old theirs answers other →
    published_batches events replies ≡ published_batches theirs answers →
    (one ≡ other) × ((query : List ℕ) (a b : Answer) → IsAnswer one query a → IsAnswer other query b → AreAlike a b)
