-- The bytes that were sent of the reply to an event (docs/SERVICE.md, "Sessions").
use Rattle.std.specs.Prelude.{ℕ, List, Option}
use Rattle.streams.specs.Sent.{IsSent, IsCutSomewhere}
use Rattle.batches.specs.Batch.{State}
use Rattle.mapmachine.specs.Machine.{Steps}
use Rattle.mapmachine.specs.declared.reply.Event.{Event}
use Rattle.mapmachine.specs.declared.reply.Reply.{Reply}
use Rattle.scripts.specs.Transcript.{reply_text}

-- an event had a reply, and all of it was sent
pub record IsReplied (old : State) (event : Event) (new : State) {S : Type 0} (held : S → Option (List ℕ)) (taken : S → ℕ) (before after : S) : Type 0 where
  pub reply : Reply
  pub step : Steps old event reply new
  pub sent : IsSent held taken before (reply_text reply) after

-- an event had a reply, and only a prefix of it was sent
pub record IsPartlyReplied (old : State) (event : Event) (new : State) {S : Type 0} (held : S → Option (List ℕ)) (taken : S → ℕ) (before after : S) : Type 0 where
  pub reply : Reply
  pub step : Steps old event reply new
  pub cut : IsCutSomewhere held taken before (reply_text reply) after
