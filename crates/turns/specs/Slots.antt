-- The connections of a worker, each at a slot (docs/WMS.md, "HTTP").
use Rattle.std.specs.Prelude.{◌≡◌, ℕ, List, Option, None, Some, get_or}
use Rattle.httpedge.specs.Exchange.{Said}
use Rattle.turns.specs.Connection.{IsTurn, TurnTerms, connection_state}
use Rattle.turns.specs.declared.open_connection.OpenConnection.{OpenConnection}
use Rattle.turns.specs.declared.turn.Next.{Next}
use Rattle.turns.specs.declared.transport.Transport.{Ghosts as Transport}

-- the connection at a slot, if there is one
abbrev pub at_slot : {T : Type 0} → List (Option (OpenConnection T)) → ℕ → Option (OpenConnection T)
at_slot slots slot = get_or slots slot None

-- the connections at other slots stay as they are
abbrev pub OthersStay : {T : Type 0} → ℕ → List (Option (OpenConnection T)) → List (Option (OpenConnection T)) → Type 0
OthersStay slot old new = (other : ℕ) → (other ≡ slot → ⊥) → at_slot new other ≡ at_slot old other

-- a slot at one moment: its connection, if there is one, and the answerer of its queries
pub record SlotState (A T : Type 0) : Type 0 where
  pub connection : Option (OpenConnection T)
  pub asks : A

-- one of these slots with this answerer
abbrev pub slot_state : {A T : Type 0} → List (Option (OpenConnection T)) → ℕ → A → SlotState A T
slot_state slots slot asks = record { connection = at_slot slots slot; asks = asks }

-- the connection at a slot had a turn
pub record HasTurn {A T : Type 0} (answers : A → List ℕ → Said → A → Type 0) (known : Transport T) (terms : TurnTerms) (old new : SlotState A T) (result : Next) : Type 0 where
  pub before : OpenConnection T
  pub after : OpenConnection T
  pub was : old.connection ≡ Some before
  pub is : new.connection ≡ Some after
  pub turn : IsTurn answers known terms (connection_state before old.asks) (connection_state after new.asks) result
