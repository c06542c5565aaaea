-- What is requested of the program, and what it has written, as its calls have them (docs/SERVICE.md, "The program").
use Rattle.std.specs.Prelude.{Some, option_map}
use Rattle.console.specs.Console.{WriterState}
use Rattle.console.specs.declared.terminal.Console.{Console}
use Rattle.program.specs.Journals.{map_fingerprint}
use Rattle.program.specs.Performing.{Begun, FingerprintedMap, Requested, RunPaths, Written}
use Rattle.program.specs.declared.performing.RequestedService.{RequestedService}
use Rattle.program.specs.declared.performing.ScriptedMap.{ScriptedMap}
use Rattle.program.specs.declared.serving.JournaledService.{JournaledService}
use Rattle.commandline.specs.declared.subcommand.Service.{Service}
use Rattle.service.specs.declared.threaded.Kept.{Kept}
use Rattle.subcommands.specs.declared.reading.ReadMap.{ReadMap}

-- what is requested of a service, with the journal of a path or without
abbrev pub requested_by : RequestedService → Requested
requested_by requested = record {
  explains = requested.explains;
  journal = option_map (λ path. path.now) requested.journal;
  service = requested.service;
}

-- the same of a service with a journal
abbrev pub requested_with : JournaledService → Requested
requested_with journaled = record { explains = journaled.explains; journal = Some journaled.path.now; service = journaled.service }

-- the paths of a map and its script
abbrev pub paths_of : ScriptedMap → RunPaths
paths_of scripted = record { mapfile = scripted.file.now; script = scripted.script.now }

-- a map that was read, and the fingerprint of its mapfile and of its files
abbrev pub fingerprinted : ReadMap → FingerprintedMap
fingerprinted read = record { map = read.map; fingerprint = map_fingerprint read.source.items read.files }

-- the output and the errors of a console, before and after, by what is known of each
abbrev pub written_by : {I O E : Type 0} → (O → WriterState) → (E → WriterState) → Console I O E → Console I O E → Written
written_by output errors old new = record {
  output = output old.output;
  later_output = output new.output;
  errors = errors old.errors;
  later_errors = errors new.errors;
}

-- a machine that is to be served with its keeper, as it begins, by these options
abbrev pub begun_by : {K : Type 0} → Kept K → Service → Begun K
begun_by kept service = record { machine = kept.machine; keeper = kept.keeper; service = service }
