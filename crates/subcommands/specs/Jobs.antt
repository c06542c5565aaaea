-- Subcommands by their jobs, which have the readers of their files (docs/SERVICE.md, "The program").
use Rattle.std.specs.Prelude.{◌≡◌}
use Rattle.console.specs.Console.{Outcome, ConsoleState, WriterState}
use Rattle.console.specs.declared.failure.Failure.{Failure}
use Rattle.subcommands.specs.Mapfiles.{JobView, Rest, RunFiles, Readings, Readers, ChecksTo, GivesNoMap, LeavesFiles, ReportsUnread, RunsTo}
use Rattle.subcommands.specs.Reports.{ReadFile}
use Rattle.subcommands.specs.declared.folder.Folder.{Ghosts as Folder}
use Rattle.subcommands.specs.declared.job.Job.{Job}
use Rattle.subcommands.specs.declared.job.NamedFile.{NamedFile}
use Rattle.subcommands.specs.declared.unread.FileReader.{Ghosts as FileReader}

-- a file that is read by its name
abbrev pub read_file : {I : Type 0} → FileReader I → NamedFile I → ReadFile
read_file reader file = record { name = file.name.now; unread_for = reader.unread_for file.reader }

-- the rest of a file, before and after
abbrev pub rest_of : {I : Type 0} → FileReader I → NamedFile I → NamedFile I → Rest
rest_of reader old new = record { before = (reader.state old.reader).left; after = (reader.state new.reader).left }

-- what a job asks of its mapfile
abbrev pub job_view : {F I : Type 0} → Folder F → Job F I → JobView
job_view folder job = record { gives = folder.gives job.folder.now; explains = job.explains }

-- the mapfile of a job gave no map
abbrev pub JobGivesNoMap : {F I : Type 0} → Folder F → FileReader I → Job F I → Job F I → Failure → WriterState → WriterState → Type 0
JobGivesNoMap folder reader old new failure =
    GivesNoMap (job_view folder old) failure (read_file reader old.mapfile) (rest_of reader old.mapfile new.mapfile)

-- the result of checking the mapfile of a job
abbrev pub JobChecksTo : {F I : Type 0} → Folder F → FileReader I → Outcome → Job F I → Job F I → ConsoleState → ConsoleState → Type 0
JobChecksTo folder reader outcome old new =
    ChecksTo (job_view folder old) outcome (read_file reader old.mapfile) (rest_of reader old.mapfile new.mapfile)

-- the mapfile and the script of a run
abbrev pub run_files : {I S : Type 0} → FileReader I → FileReader S → NamedFile I → NamedFile S → RunFiles
run_files mapfiles scripts mapfile script = record { mapfile = read_file mapfiles mapfile; script = read_file scripts script }

-- a job, and the script that is played on its map
abbrev pub Run : Type 0 → Type 0 → Type 0 → Type 0
Run F I S = Job F I × NamedFile S

-- the readers of a mapfile and of a script
abbrev pub readers_of : {F I S : Type 0} → FileReader I → FileReader S → Run F I S → Run F I S → Readers
readers_of mapfiles scripts old new = record {
  mapfile_before = mapfiles.state old.0.mapfile.reader;
  mapfile_after = mapfiles.state new.0.mapfile.reader;
  script_before = scripts.state old.1.reader;
  script_after = scripts.state new.1.reader;
}

-- the result of running a script on the map of a job
abbrev pub JobRunsTo : {F I S : Type 0} → Folder F → FileReader I → FileReader S → Outcome → Run F I S → Run F I S → ConsoleState → ConsoleState → Type 0
JobRunsTo folder mapfiles scripts outcome old new =
    RunsTo (job_view folder old.0) outcome (run_files mapfiles scripts old.0.mapfile old.1)
    (record { mapfile = rest_of mapfiles old.0.mapfile new.0.mapfile; script = rest_of scripts old.1 new.1 })

-- a run reports its file that was not read
abbrev pub JobReportsUnread : {F I S : Type 0} → FileReader I → FileReader S → Run F I S → Run F I S → WriterState → WriterState → Type 0
JobReportsUnread mapfiles scripts old new before after =
    ReportsUnread old.0.explains (run_files mapfiles scripts old.0.mapfile old.1) before after (readers_of mapfiles scripts old new)
    (new.1 ≡ old.1)
