-- One connection that is opened, served by calls that wait, and closed (docs/SERVICE.md, "The program").
use Rattle.std.specs.Prelude.{Option, Some}
use Rattle.streams.specs.Sides.{Attended}
use Rattle.httpedge.specs.declared.edge.EdgeFault.{EdgeFault}

-- a connection was opened, its client was served, and the connection was closed with the fault of the exchange, if there was one
pub record IsServedOne {C R W D A : Type 0} (opens : C → Option (R × W) → Type 0) (closes : R → W → Option EdgeFault → D → Type 0) (serves : Option EdgeFault → Attended R W A → Attended R W A → Type 0) (connection : C) (old new : A) (closed : D) : Type 0 where
  pub reader : R
  pub writer : W
  pub opened : opens connection (Some (reader, writer))
  pub fault : Option EdgeFault
  pub rest : R
  pub got : W
  pub served : serves fault (record { reader = reader; writer = writer; asked = old }) (record { reader = rest; writer = got; asked = new })
  pub ended : closes rest got fault closed
