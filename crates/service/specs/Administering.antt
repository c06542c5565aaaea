-- One connection of an administrator (docs/SERVICE.md, "Administration").
use Rattle.std.specs.Prelude.{◌≡◌, ℕ, ◌-◌, Option, None, Some, Result, Ok, Err}
use Rattle.administration.specs.Keeping.{IsCutShort, IsFailed}
use Rattle.administration.specs.Serving.{HasAdministered}
use Rattle.administration.specs.declared.keeping.AdministerFault.{AdministerFault}
use Rattle.administration.specs.declared.keeping.AdministerFault.TheVariants.{PutFailed, KeepFailed}
use Rattle.batches.specs.Batch.{State}
use Rattle.httpedge.specs.declared.edge.EdgeFault.{EdgeFault}
use Rattle.httpedge.specs.declared.edge.EdgeFault.TheVariants.{Write}
use Rattle.keepers.specs.declared.cause.LogCause.{LogCause}
use Rattle.mapshare.specs.Admin.{Batches}
use Rattle.streams.specs.Sides.{Attended, SidesView}

-- the fault with which a connection is closed: its writer failed, after so many bytes
abbrev pub fault_of : Result (Unit {0}) AdministerFault → ℕ → Option EdgeFault
fault_of (Ok done) written = None
fault_of (Err (KeepFailed cause)) written = None
fault_of (Err PutFailed) written = Some (Write written)

-- why the keeper of batches failed, if it did
abbrev pub cause_of : Result (Unit {0}) AdministerFault → Option LogCause
cause_of (Ok done) = None
cause_of (Err PutFailed) = None
cause_of (Err (KeepFailed cause)) = Some cause

-- an administrator's commands were done and answered: all up to their end, to lines that weren't written, or to batches that the keeper failed to
-- keep. Of all lines so many bytes were sent
abbrev pub Administers : {R W : Type 0} → State → SidesView R W → Option LogCause → Option EdgeFault → Attended R W Batches → Attended R W Batches → Type 0
Administers opening sides None None old new = HasAdministered opening sides old new
Administers opening sides (Some cause) None old new = IsFailed opening sides old new
Administers opening sides None (Some (Write written)) old new =
    IsCutShort opening sides old new × (written ≡ sides.taken new.writer - sides.taken old.writer)
Administers opening sides cause fault old new = ⊥
