-- The command line (docs/SERVICE.md, "The program").
use Rattle.std.specs.Prelude.{◌≡◌, ◌≤◌, ℕ, pos, All, fold, Ok, List, [], ◌∷◌, Option, Some, None, option_map, Bool, true, false, codes}
use Rattle.std.specs.Str.Parse.{ParsesUnsigned}
use Rattle.std.specs.declared.num.ParseIntError.{ParseIntError}
use Rattle.clap.specs.declared.builder.action.ArgAction.TheVariants.{SetTrue}
use Rattle.clap.specs.declared.builder.value_parser.ValueParser.TheVariants as vp
use Rattle.clap.specs.Words.{App, Row, Rule, Text, fault_of, first_of, one_of, subcommand_of, takes, new_app, new_rule, with_rule, with_subcommand}
use Rattle.commandline.specs.declared.subcommand.Command.{Command}
use Rattle.commandline.specs.declared.subcommand.Service.{Service}
use Rattle.commandline.specs.declared.options.NumberOption.{NumberOption}
use Rattle.commandline.specs.declared.subcommand.Command.TheVariants.{Session, Check, Run, Serve}
use Rattle.commandline.specs.declared.arguments.WordsFault.{WordsFault}
use Rattle.commandline.specs.declared.arguments.WordsFault.TheVariants.{Refused, NoMemory}

-- the name of a mapfile, which is required
abbrev pub file_rule : Rule
file_rule = record (new_rule (codes "FILE")) { required = true }

-- the name of a script, which is required
abbrev pub script_rule : Rule
script_rule = record (new_rule (codes "SCRIPT")) { required = true }

-- a flag of a name
abbrev pub flag_rule : Text → Rule
flag_rule name = record (new_rule name) { long = Some name; action = Some SetTrue }

-- `--explain`
abbrev pub explain_rule : Rule
explain_rule = flag_rule (codes "explain")

-- `--until-input-ends`
abbrev pub until_rule : Rule
until_rule = flag_rule (codes "until-input-ends")

-- `--log`
abbrev pub log_rule : Rule
log_rule = flag_rule (codes "log")

-- an option of a name, which is a text
abbrev pub text_rule : Text → Rule
text_rule name = record (new_rule name) { long = Some name; value_names = 1 }

-- `--journal JOURNAL`
abbrev pub journal_rule : Rule
journal_rule = text_rule (codes "journal")

-- `NAME --explain FILE`
abbrev pub file_app : Text → App
file_app name = with_rule (with_rule (new_app name) file_rule) explain_rule

-- `check --explain FILE`
abbrev pub check_app : App
check_app = file_app (codes "check")

-- `run --explain FILE SCRIPT`
abbrev pub run_app : App
run_app = with_rule (file_app (codes "run")) script_rule

-- an option of `serve`, which is a number: its name, the least and the most that it may be, and the text of its default
pub record ServeOption : Type 0 where
  pub name : Text
  pub least : ℕ
  pub most : ℕ
  pub default : Text

-- the options of `serve`: two ports, how many connections are taken (0 is no end), milliseconds, seconds, threads, and megabytes (0 is never)
abbrev pub serve_options : List ServeOption
serve_options =
    record { name = codes "port"; least = 0; most = 65535; default = codes "8080" }
    ∷ record { name = codes "connections"; least = 0; most = 4294967295; default = codes "0" }
    ∷ record { name = codes "idle"; least = 1; most = 60000; default = codes "60000" }
    ∷ record { name = codes "timeout"; least = 1; most = 3600; default = codes "30" }
    ∷ record { name = codes "admin-port"; least = 0; most = 65535; default = codes "8081" }
    ∷ record { name = codes "workers"; least = 1; most = 32; default = codes "4" }
    ∷ record { name = codes "checkpoint"; least = 0; most = 1000000; default = codes "0" }
    ∷ []

-- the same for an option of the code
abbrev pub option_of : NumberOption → ServeOption
option_of o = record { name = o.name.now; least = o.least; most = o.most; default = o.default.now }

-- the rule of the command line for an option: its name and a number in its range, or its default where it is missing
abbrev pub number_rule : ServeOption → Rule
number_rule o = record (new_rule o.name) { long = Some o.name; value_names = 1; parser = Some (vp.Signed (pos o.least) (pos o.most)); defaults = o.default ∷ [] }

-- a subcommand with one more option
abbrev pub with_option : App → ServeOption → App
with_option command o = with_rule command (number_rule o)

-- `serve --explain FILE` with the options that are numbers
abbrev pub numbered_app : App
numbered_app = fold with_option (file_app (codes "serve")) serve_options

-- the same with `--until-input-ends`
abbrev pub ended_app : App
ended_app = with_rule numbered_app until_rule

-- the same with `--log`
abbrev pub logged_app : App
logged_app = with_rule ended_app log_rule

-- the same with `--journal JOURNAL`
abbrev pub serve_app : App
serve_app = with_rule logged_app journal_rule

-- the program by its name, with which its arguments don't begin, and a version, for `--version`
abbrev pub program_app : App
program_app = record { top = record (new_app (codes "mapservd")).top { has_version = true; no_binary_name = true }; subs = [] }

-- the command line: no arguments, or one of the three subcommands
abbrev pub app : App
app = with_subcommand (with_subcommand (with_subcommand program_app check_app.top) run_app.top) serve_app.top

-- the rows of matches have a number of so many bits under a name
abbrev pub IsNumber : ℕ → Text → List Row → ℕ → Type 0
IsNumber bits name rows n = (t : Text) × (one_of name rows ≡ Some t) × ParsesUnsigned {E = ParseIntError} bits 10 t (Ok n)

-- the rows of matches have a number for an option, and it is in its range
pub record IsInRange (rows : List Row) (o : ServeOption) : Type 0 where
  pub number : ℕ
  pub read : IsNumber 32 o.name rows number
  pub range : (o.least ≤ number) × (number ≤ o.most)

-- a flag is set in the rows of matches, or it is not
pub record IsFlag (name : Text) (rows : List Row) (flag : Bool) : Type 0 where
  pub set : one_of name rows ≡ Some (codes "true") → flag ≡ true
  pub unset : one_of name rows ≡ Some (codes "false") → flag ≡ false
  pub absent : one_of name rows ≡ None → flag ≡ false

-- the rows of matches have the options of a service, with numbers in their ranges
pub record IsService (rows : List Row) (service : Service) : Type 0 where
  pub port : IsNumber 16 (codes "port") rows service.port
  pub connections : IsNumber 32 (codes "connections") rows service.connections
  pub idle : IsNumber 16 (codes "idle") rows service.idle
  pub timeout : IsNumber 16 (codes "timeout") rows service.timeout
  pub admin_port : IsNumber 16 (codes "admin-port") rows service.admin_port
  pub workers : IsNumber 16 (codes "workers") rows service.workers
  pub checkpoint : IsNumber 32 (codes "checkpoint") rows service.checkpoint
  pub until_input_ends : IsFlag (codes "until-input-ends") rows service.until_input_ends
  pub logs : IsFlag (codes "log") rows service.logs
  pub ranges : All (IsInRange rows) serve_options

-- the rows of matches have the name of a mapfile, and whether its fault is explained
pub record IsOnFile (rows : List Row) (file : Text) (explains : Bool) : Type 0 where
  pub named : first_of (codes "FILE") rows ≡ Some file
  pub flag : IsFlag (codes "explain") rows explains

-- the command of matches: no subcommand, or the name of one with its files
abbrev pub IsCommand : Option (Text × List Row) → Command → Type 0
IsCommand None Session = Unit {0}
IsCommand None (Check file explains) = ⊥
IsCommand None (Run file script explains) = ⊥
IsCommand None (Serve file explains service journal) = ⊥
IsCommand (Some m) Session = ⊥
IsCommand (Some m) (Check file explains) = (m.0 ≡ codes "check") × IsOnFile m.1 file.now explains
IsCommand (Some m) (Run file script explains) =
    (m.0 ≡ codes "run") × IsOnFile m.1 file.now explains × (first_of (codes "SCRIPT") m.1 ≡ Some script.now)
IsCommand (Some m) (Serve file explains service journal) =
    (m.0 ≡ codes "serve") × IsOnFile m.1 file.now explains × IsService m.1 service × (first_of (codes "journal") m.1 ≡ option_map (λ name. name.now) journal)

-- the arguments were refused
abbrev pub is_refusal : WordsFault → Bool
is_refusal (Refused text) = true
is_refusal NoMemory = false

-- the command plays a session
abbrev pub IsSession : Command → Type 0
IsSession Session = Unit {0}
IsSession _ = ⊥

-- the command checks the mapfile of a name, and explains a fault or doesn't
abbrev pub Checks : Text → Bool → Command → Type 0
Checks name explained (Check file explains) = (file.now ≡ name) × (explains ≡ explained)
Checks name explained _ = ⊥

-- the command plays the script of a name on the mapfile of a name, and explains a fault or doesn't
abbrev pub Plays : Text → Text → Bool → Command → Type 0
Plays map_name script_name explained (Run file script explains) = (file.now ≡ map_name) × (script.now ≡ script_name) × (explains ≡ explained)
Plays map_name script_name explained _ = ⊥

-- the text is that of a number of so many bits
abbrev pub Reads : ℕ → Text → ℕ → Type 0
Reads bits text n = ParsesUnsigned {E = ParseIntError} bits 10 text (Ok n)

-- the texts of the options of `serve`, whether its flags are set, and the name of its journal
pub record OptionTexts : Type 0 where
  pub port : Text
  pub connections : Text
  pub idle : Text
  pub timeout : Text
  pub admin_port : Text
  pub workers : Text
  pub checkpoint : Text
  pub until_input_ends : Bool
  pub logs : Bool
  pub journal : Option Text

-- the texts of missing options
abbrev pub default_texts : OptionTexts
default_texts = record {
  port = codes "8080";
  connections = codes "0";
  idle = codes "60000";
  timeout = codes "30";
  admin_port = codes "8081";
  workers = codes "4";
  checkpoint = codes "0";
  until_input_ends = false;
  logs = false;
  journal = None;
}

-- a map is served by these texts of options
pub record IsServedBy (texts : OptionTexts) (service : Service) : Type 0 where
  pub reads_port : Reads 16 texts.port service.port
  pub reads_connections : Reads 32 texts.connections service.connections
  pub reads_idle : Reads 16 texts.idle service.idle
  pub reads_timeout : Reads 16 texts.timeout service.timeout
  pub reads_admin_port : Reads 16 texts.admin_port service.admin_port
  pub reads_workers : Reads 16 texts.workers service.workers
  pub reads_checkpoint : Reads 32 texts.checkpoint service.checkpoint
  pub ends : service.until_input_ends ≡ texts.until_input_ends
  pub logs : service.logs ≡ texts.logs

-- the command serves the mapfile of a name, and explains a fault or doesn't, by the texts of its options
abbrev pub Serves : Text → Bool → OptionTexts → Command → Type 0
Serves name explained texts (Serve file explains service journal) =
    (file.now ≡ name) × (explains ≡ explained) × IsServedBy texts service × (option_map (λ text. text.now) journal ≡ texts.journal)
Serves name explained texts _ = ⊥

-- the commands that arguments may be
abbrev pub May : List Text → Command → Type 0
May arguments command = IsCommand (subcommand_of app arguments) command

-- the law on arguments that are written out. None are a session, `check` has its file, and `run` has the mapfile before the script. `serve` has its
-- file, and numbers that are missing are 8080, 0, 60000, 30, 8081, 4 and 0. Each flag is set where it is given, and else not, and so is the journal
pub record CommandsAreWritten : Type 0 where
  pub none : (c : Command) → May [] c → IsSession c
  pub check : (c : Command) → May (codes "check" ∷ codes "a.map" ∷ []) c → Checks (codes "a.map") false c
  pub explained : (c : Command) → May (codes "check" ∷ codes "--explain" ∷ codes "a.map" ∷ []) c → Checks (codes "a.map") true c
  pub run : (c : Command) → May (codes "run" ∷ codes "a.map" ∷ codes "b.txt" ∷ []) c → Plays (codes "a.map") (codes "b.txt") false c
  pub run_explained : (c : Command) → May (codes "run" ∷ codes "--explain" ∷ codes "a.map" ∷ codes "b.txt" ∷ []) c → Plays (codes "a.map") (codes "b.txt") true c
  pub serve : (c : Command) → May (codes "serve" ∷ codes "a.map" ∷ codes "--connections" ∷ codes "2" ∷ []) c → Serves (codes "a.map") false (record default_texts { connections = codes "2" }) c
  pub served : (c : Command) → May (codes "serve" ∷ codes "--port" ∷ codes "81" ∷ codes "a.map" ∷ []) c → Serves (codes "a.map") false (record default_texts { port = codes "81" }) c
  pub timed : (c : Command) → May (codes "serve" ∷ codes "a.map" ∷ codes "--timeout" ∷ codes "9" ∷ codes "--idle" ∷ codes "50" ∷ []) c → Serves (codes "a.map") false (record default_texts { idle = codes "50"; timeout = codes "9" }) c
  pub administered : (c : Command) → May (codes "serve" ∷ codes "a.map" ∷ codes "--workers" ∷ codes "8" ∷ codes "--admin-port" ∷ codes "82" ∷ []) c → Serves (codes "a.map") false (record default_texts { admin_port = codes "82"; workers = codes "8" }) c
  pub ended : (c : Command) → May (codes "serve" ∷ codes "a.map" ∷ codes "--until-input-ends" ∷ []) c → Serves (codes "a.map") false (record default_texts { until_input_ends = true }) c
  pub logged : (c : Command) → May (codes "serve" ∷ codes "--log" ∷ codes "a.map" ∷ []) c → Serves (codes "a.map") false (record default_texts { logs = true }) c
  pub kept : (c : Command) → May (codes "serve" ∷ codes "a.map" ∷ codes "--journal" ∷ codes "b.journal" ∷ []) c → Serves (codes "a.map") false (record default_texts { journal = Some (codes "b.journal") }) c
  pub shortened : (c : Command) → May (codes "serve" ∷ codes "a.map" ∷ codes "--checkpoint" ∷ codes "64" ∷ codes "--journal" ∷ codes "b.journal" ∷ []) c → Serves (codes "a.map") false (record default_texts { checkpoint = codes "64"; journal = Some (codes "b.journal") }) c
  pub serve_explained : (c : Command) → May (codes "serve" ∷ codes "a.map" ∷ codes "--explain" ∷ []) c → Serves (codes "a.map") true default_texts c

-- the law on arguments that are taken or refused. Those of each command are taken. Those that lack a file, begin with another argument, request help
-- or the version, or have a number beyond its range are refused
pub record ArgumentsAreTaken : Type 0 where
  pub taken : (fault_of app [] ≡ []) × (fault_of app (codes "check" ∷ codes "a.map" ∷ []) ≡ []) × (fault_of app (codes "run" ∷ codes "a.map" ∷ codes "b.txt" ∷ []) ≡ [])
  pub explained : (fault_of app (codes "check" ∷ codes "--explain" ∷ codes "a.map" ∷ []) ≡ [])
      × (fault_of app (codes "run" ∷ codes "a.map" ∷ codes "--explain" ∷ codes "b.txt" ∷ []) ≡ [])
      × (fault_of app (codes "serve" ∷ codes "a.map" ∷ codes "--explain" ∷ []) ≡ [])
  pub refused : (takes app (codes "check" ∷ []) ≡ false) × (takes app (codes "run" ∷ codes "a.map" ∷ []) ≡ false) × (takes app (codes "draw" ∷ codes "a.map" ∷ []) ≡ false)
      × (takes app (codes "serve" ∷ codes "a.map" ∷ codes "--port" ∷ codes "65536" ∷ []) ≡ false)
  pub answered : (takes app (codes "--help" ∷ []) ≡ false) × (takes app (codes "--version" ∷ []) ≡ false) × (takes app (codes "check" ∷ codes "--version" ∷ []) ≡ false)
  pub untimely : (takes app (codes "serve" ∷ codes "a.map" ∷ codes "--idle" ∷ codes "0" ∷ []) ≡ false) × (takes app (codes "serve" ∷ codes "a.map" ∷ codes "--idle" ∷ codes "60001" ∷ []) ≡ false)
      × (takes app (codes "serve" ∷ codes "a.map" ∷ codes "--timeout" ∷ codes "0" ∷ []) ≡ false) × (takes app (codes "serve" ∷ codes "a.map" ∷ codes "--timeout" ∷ codes "3601" ∷ []) ≡ false)
  pub unmanned : (takes app (codes "serve" ∷ codes "a.map" ∷ codes "--workers" ∷ codes "0" ∷ []) ≡ false) × (takes app (codes "serve" ∷ codes "a.map" ∷ codes "--workers" ∷ codes "33" ∷ []) ≡ false)
      × (takes app (codes "serve" ∷ codes "a.map" ∷ codes "--admin-port" ∷ codes "65536" ∷ []) ≡ false)
  pub unbounded : (takes app (codes "serve" ∷ codes "a.map" ∷ codes "--checkpoint" ∷ codes "1000001" ∷ []) ≡ false) × (takes app (codes "serve" ∷ codes "a.map" ∷ codes "--checkpoint" ∷ []) ≡ false)
  pub nameless : takes app (codes "serve" ∷ codes "a.map" ∷ codes "--journal" ∷ []) ≡ false
