-- The texts of scripts, by their events (docs/SERVICE.md, "Sessions").
use Rattle.std.specs.Prelude.{◌≡◌, ℕ, ◌<◌, ◌^◌, List, ◌++◌, length, false, Ok, codes}
use Rattle.std.specs.Fmt.{decimal}
use Rattle.std.specs.List.{All, flat_map, list_any}
use Rattle.batches.specs.Command.{is_line_end}
use Rattle.mapmachine.specs.declared.reply.Event.{Event}
use Rattle.mapmachine.specs.declared.reply.Event.TheVariants.{Query, Batch}
use Rattle.scripts.specs.Script.{script_of}

-- the command of an event. A query is its keyword, a space, its text and an LF. A batch is its keyword, a space, the count of its bytes, an LF and
-- these bytes
abbrev pub command_text : Event → List ℕ
command_text (Query text) = codes "QUERY " ++ (text ++ codes "\n")
command_text (Batch bytes) = codes "BATCH " ++ (decimal (length bytes) ++ (codes "\n" ++ bytes))

-- events as a script, one command after the other
abbrev pub script_text : List Event → List ℕ
script_text events = flat_map command_text events

-- a script can contain the event: the text of a query has no LF, and the count of a batch's bytes has at most 10 digits
abbrev pub CanBeWritten : Event → Type 0
CanBeWritten (Query text) = list_any is_line_end text ≡ false
CanBeWritten (Batch bytes) = length bytes < 10 ^ 10

-- the law: a script that is written out from events is read as these
abbrev pub WrittenScriptIsRead : Type 0
WrittenScriptIsRead = (events : List Event) → All CanBeWritten events → script_of (script_text events) ≡ Ok events
