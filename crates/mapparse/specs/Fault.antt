-- Faults of files (docs/MAPFILE.md, "Files" and "Faults").
use Rattle.mapwords.specs.declared.fault.Fault.{Fault}
use Rattle.mapwords.specs.declared.fault.ParseKind.{ParseKind}
use Rattle.mapwords.specs.declared.fault.ParseKind.TheVariants.{MissingFile, BadFile}
use Rattle.mapparse.specs.declared.fault.FileCause.{FileCause}
use Rattle.mapparse.specs.declared.fault.FileCause.TheVariants.{Missing, NoFont, NoPixmap, NoTable}
use Rattle.mapparse.specs.declared.fault.FileFault.{FileFault}

-- the kind of a fault by its cause
abbrev pub kind_of : FileCause → ParseKind
kind_of Missing = MissingFile
kind_of (NoPixmap fault) = BadFile
kind_of (NoTable fault) = BadFile
kind_of (NoFont fault) = BadFile

-- the fault of the mapfile
abbrev pub fault_in : FileFault → Fault
fault_in f = record { line = f.line; kind = kind_of f.cause }
