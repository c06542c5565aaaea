-- The two sides of a connection, and what is known of them.
use Rattle.std.specs.Prelude.{ℕ, Bool, List, Option}
use Rattle.streams.specs.declared.sink.Sink.{Ghosts as Sink}
use Rattle.streams.specs.declared.source.Source.{Ghosts as Source}

-- the bytes that a reader still gives and whether it has failed, and the bytes that a writer holds and how many it took
pub record SidesView (R W : Type 0) : Type 0 where
  pub left : R → Option (List ℕ)
  pub failed : R → Bool
  pub held : W → Option (List ℕ)
  pub taken : W → ℕ

-- those of a source and a sink
abbrev pub sides_view : {R W : Type 0} → Source R → Sink W → SidesView R W
sides_view source sink = record { left = source.left; failed = source.take_failed; held = sink.held; taken = sink.taken }

-- the two sides of a connection, and whom it asks
pub record Attended (R W A : Type 0) : Type 0 where
  pub reader : R
  pub writer : W
  pub asked : A
