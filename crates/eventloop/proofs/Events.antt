-- What a poller reports is served.
use Rattle.std.proofs.Common.{ℕ, List, slice_index_or}
use Rattle.eventloop.specs.Working.{EventsServe}
use Rattle.httpedge.specs.Exchange.{Said}
use Rattle.turns.proofs.Runs.{turns-stay}
use Rattle.turns.specs.declared.transport.Transport.{Ghosts as Transport}

module _ {A T : Type 0} (answers : A → List ℕ → Said → A → Type 0) (known : Transport T) where
  pub events-serve : EventsServe answers known
  events-serve slots before first last steps turns runs k d less within =
      turns-stay answers known first last steps runs (slice_index_or slots k d) (turns k d less within)
