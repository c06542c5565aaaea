-- One connection that is answered (docs/WMS.md, "HTTP").
use Rattle.std.specs.Prelude.{◌≡◌, ◌⊎◌, ℕ, ◌<◌, List, length, take, Option, true}
use Rattle.std.specs.Io.KnownBytes.{Appends}
use Rattle.httpedge.specs.Exchange.{Said, IsExchange, IsBegun}
use Rattle.httpedge.specs.Response.{busy_text}
use Rattle.httpedge.specs.Stopped.{Effect}
use Rattle.httpedge.specs.declared.conn.TheConstants.{REQUESTS}
use Rattle.httpedge.specs.declared.edge.EdgeFault.{EdgeFault}
use Rattle.httpedge.specs.declared.edge.EdgeFault.TheVariants.{Read, Write}

-- an answerer answered a stream, and all of the answers were sent
pub record HasAnswered {A : Type 0} (answers : A → List ℕ → Said → A → Type 0) (stream : List ℕ) (effect : Effect A (Option (List ℕ))) : Type 0 where
  pub text : List ℕ
  pub exchange : IsExchange answers REQUESTS stream effect.asker text effect.asks
  pub bytes : Appends effect.before effect.after text

-- the stream was answered, or there was no memory for a head, the client got the answer that the server is busy, and the answerer wasn't called
abbrev pub HasServed : {A : Type 0} → (A → List ℕ → Said → A → Type 0) → List ℕ → Effect A (Option (List ℕ)) → Type 0
HasServed answers stream effect = HasAnswered answers stream effect ⊎ (effect.asks ≡ effect.asker) × Appends effect.before effect.after (busy_text true)

-- an answerer answered the first requests of a stream, and all of these answers were sent, so many bytes
pub record HasAnsweredFirst {A : Type 0} (answers : A → List ℕ → Said → A → Type 0) (stream : List ℕ) (effect : Effect A (Option (List ℕ))) (written : ℕ) : Type 0 where
  pub text : List ℕ
  pub begun : IsBegun answers REQUESTS stream effect.asker text effect.asks
  pub bytes : Appends effect.before effect.after text
  pub count : written ≡ length text

-- an answerer answered the first requests of a stream; exactly the first so many bytes of these answers were sent, and not all
pub record HasBrokenOff {A : Type 0} (answers : A → List ℕ → Said → A → Type 0) (stream : List ℕ) (effect : Effect A (Option (List ℕ))) (written : ℕ) : Type 0 where
  pub text : List ℕ
  pub begun : IsBegun answers REQUESTS stream effect.asker text effect.asks
  pub short : written < length text
  pub bytes : Appends effect.before effect.after (take written text)

-- the bytes that were sent before a fault. Where there was no memory for a head, they are a prefix of the answer that the server is busy
abbrev pub HasLeft : {A : Type 0} → EdgeFault → (A → List ℕ → Said → A → Type 0) → List ℕ → Effect A (Option (List ℕ)) → Type 0
HasLeft (Read written) answers stream effect = HasAnsweredFirst answers stream effect written
HasLeft (Write written) answers stream effect =
    HasBrokenOff answers stream effect written
    ⊎ (effect.asks ≡ effect.asker) × (written < length (busy_text true)) × Appends effect.before effect.after (take written (busy_text true))
