-- Scripts (docs/SERVICE.md, "Sessions").
use Rattle.std.specs.Prelude.{ℕ, zero, suc, ◌+◌, Bool, nat_eq, nat_lt, if◌then◌else◌, List, [], ◌∷◌, length, drop, take, Option, None, Some, Result, Ok, Err, codes}
use Rattle.std.specs.List.{before_first, after_first, position_or_len, starts_with}
use Rattle.batches.specs.Command.{count_of, is_line_end}
use Rattle.mapmachine.specs.declared.reply.Event.{Event}
use Rattle.mapmachine.specs.declared.reply.Event.TheVariants.{Query, Batch}

-- a batch of so many bytes, and the bytes after it, if that many bytes follow
abbrev pub batch_of : Option ℕ → List ℕ → Option (Event × List ℕ)
batch_of None rest = None
batch_of (Some count) rest = if nat_lt (length rest) count then None else Some (Batch (take count rest), drop count rest)

-- the command of a line that some bytes follow, and the bytes after it. The line of a query is its keyword, a space and the query. The line of a
-- batch is its keyword, a space and the count of its bytes
abbrev pub command_of : List ℕ → List ℕ → Option (Event × List ℕ)
command_of line rest =
    if starts_with nat_eq line (codes "QUERY ") then Some (Query (drop 6 line), rest)
    else if starts_with nat_eq line (codes "BATCH ") then batch_of (count_of (drop 6 line)) rest
    else None

-- the first line of a script has its LF
abbrev pub has_line : List ℕ → Bool
has_line script = nat_lt (position_or_len is_line_end script) (length script)

-- the first command of a script, and the bytes after it
abbrev pub first_command : List ℕ → Option (Event × List ℕ)
first_command script =
    if has_line script then command_of (before_first is_line_end script) (after_first is_line_end script) else None

-- an event before others
abbrev pub with_event : Event → Result (List Event) ℕ → Result (List Event) ℕ
with_event event (Ok events) = Ok (event ∷ events)
with_event event (Err later) = Err later

-- a command of this number before the others: its event before theirs, or its number where it is unreadable
abbrev pub with_command : ℕ → Option (Event × List ℕ) → (List ℕ → Result (List Event) ℕ) → Result (List Event) ℕ
with_command number None others = Err number
with_command number (Some read) others = with_event read.0 (others read.1)

-- the events of a script whose first command has this number, within so many commands
unfoldable pub script_within : ℕ → ℕ → List ℕ → Result (List Event) ℕ
script_within n number [] = Ok []
script_within zero number (b ∷ bs) = Err number
script_within (suc n) number (b ∷ bs) = with_command number (first_command (b ∷ bs)) (script_within n (number + 1))

-- the events of a script, or the number of its first unreadable command: each command takes a byte at least
abbrev pub script_of : List ℕ → Result (List Event) ℕ
script_of script = script_within (length script) 1 script

-- the number of the first unreadable command of a script, if it has one
abbrev pub fault_of : Result (List Event) ℕ → Option ℕ
fault_of (Ok events) = None
fault_of (Err number) = Some number
