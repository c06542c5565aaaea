-- A batch that nothing keeps.
use Rattle.std.proofs.Common.{ℕ, ◌+◌, List, [], length, ◌∙◌, ap}
use Rattle.batches.specs.Batch.{State}
use Rattle.mapshare.specs.Admin.{Batches, HasSubmitted}
use Rattle.mapshare.specs.declared.admin.Submitted.{Submitted}
use Rattle.mapshare.specs.declared.admin.Submitted.TheVariants as submitted
use Rattle.administration.specs.Commands.{Submit}
use Rattle.administration.specs.Serving.{HasDone, done_of}

-- a submitted batch is done
pub submitted_done : {S : Type 0} (opening : State) (old : Batches) (batch : List ℕ) (what : Submitted S) (new : Batches) → HasSubmitted opening old batch what new → HasDone opening old (Submit batch) (done_of opening what) new
submitted_done opening old batch (submitted.Published receipt) new is =
    (is.0, (is.1.1 ∙ ap (λ (l : List (List ℕ)). record { published = l; pending = [] }) is.1.0, ap (λ (l : List (List ℕ)). opening.sequence + length l) is.1.0))
submitted_done opening old batch submitted.Held new is = is
submitted_done opening old batch (submitted.Refused fault) new is = is
submitted_done opening old batch submitted.NoMemory new is = is
