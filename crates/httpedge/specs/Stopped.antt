-- The bytes of an exchange that were sent, also where it was given up (docs/WMS.md, "HTTP").
use Rattle.std.specs.Prelude.{◌≡◌, ℕ, List, length, Bool, true, false}
use Rattle.streams.specs.Sent.{IsSent, IsCut}
use Rattle.streams.specs.declared.sink.Sink.{Ghosts as Sink}
use Rattle.httpedge.specs.Connection.{LeavesOpen}
use Rattle.httpedge.specs.Exchange.{Said, IsExchange, IsBegun}
use Rattle.httpedge.specs.Serving.{HasCome}
use Rattle.httpedge.specs.declared.conn.TheConstants.{REQUESTS}
use Rattle.httpedge.specs.declared.edge.EdgeFault.{EdgeFault}
use Rattle.httpedge.specs.declared.edge.EdgeFault.TheVariants.{Read, Write}

-- the effect of an exchange: the answerer before it and after it, and the sink of the answers before it and after it
pub record Effect (A S : Type 0) : Type 0 where
  pub asker : A
  pub asks : A
  pub before : S
  pub after : S

-- all of the bytes that answer a stream were sent
pub record HasExchanged {A S : Type 0} (answers : A → List ℕ → Said → A → Type 0) (known : Sink S) (stream : List ℕ) (effect : Effect A S) : Type 0 where
  pub text : List ℕ
  pub exchange : IsExchange answers REQUESTS stream effect.asker text effect.asks
  pub sent : IsSent known.held known.taken effect.before text effect.after

-- the first answers to a stream were sent, so many bytes in all, and no other was begun
pub record HasPaused {A S : Type 0} (answers : A → List ℕ → Said → A → Type 0) (known : Sink S) (stream : List ℕ) (effect : Effect A S) (written : ℕ) : Type 0 where
  pub text : List ℕ
  pub begun : IsBegun answers REQUESTS stream effect.asker text effect.asks
  pub sent : IsSent known.held known.taken effect.before text effect.after
  pub count : written ≡ length text

-- of the first answers to a stream exactly the first so many bytes were sent, and not all
pub record HasBroken {A S : Type 0} (answers : A → List ℕ → Said → A → Type 0) (known : Sink S) (stream : List ℕ) (effect : Effect A S) (written : ℕ) : Type 0 where
  pub text : List ℕ
  pub begun : IsBegun answers REQUESTS stream effect.asker text effect.asks
  pub cut : IsCut known.held known.taken effect.before text written effect.after

-- the bytes that were sent before a fault
abbrev pub HasStopped : {A S : Type 0} → EdgeFault → (A → List ℕ → Said → A → Type 0) → Sink S → List ℕ → Effect A S → Type 0
HasStopped (Read written) answers known stream effect = HasPaused answers known stream effect written
HasStopped (Write written) answers known stream effect = HasBroken answers known stream effect written

-- these bytes were read, all heads in them were answered, and the bytes left of them may still get a meaning
pub record HasKeptUp {A S : Type 0} (answers : A → List ℕ → Said → A → Type 0) (known : Sink S) (read : List ℕ) (effect : Effect A S) : Type 0 where
  pub text : List ℕ
  pub left : ℕ
  pub came : List ℕ
  pub come : HasCome answers REQUESTS (record { read = read; first = effect.asker; said = text })
      (record { requests = left; came = came; now = effect.asks })
  pub open_rest : LeavesOpen came
  pub sent : IsSent known.held known.taken effect.before text effect.after

-- the reader failed
abbrev pub is_read : EdgeFault → Bool
is_read (Read written) = true
is_read (Write written) = false

-- how many bytes were sent before a fault
abbrev pub written_of : EdgeFault → ℕ
written_of (Read written) = written
written_of (Write written) = written
