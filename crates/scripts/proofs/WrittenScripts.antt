-- A script that is written out from events is read as these, command by command.
use Rattle.std.proofs.Common.{◌≡◌, ◌∙◌, ℕ, ◌+◌, ◌≤◌, ◌<◌, ◌^◌, false, List, [], ◌∷◌, ◌++◌, length, take, drop, Some, Ok, nat_lt, refl, sym, ap, arith, append_assoc, length-append}
use Rattle.std.specs.Prelude.{codes}
use Rattle.std.specs.Fmt.{decimal}
use Rattle.std.specs.List.{All, list_any}
use Rattle.std.proofs.Math.Seq.{drop-append_seam, take-append_seam}
use Rattle.std.proofs.lemmas.Bool.Decides.{nat_tests}
use Rattle.std.proofs.lemmas.List.Elements.{All-head, All-tail}
use Rattle.mapmachine.specs.declared.reply.Event.{Event}
use Rattle.mapmachine.specs.declared.reply.Event.TheVariants.{Query, Batch}
use Rattle.batches.specs.Command.{is_line_end}
use Rattle.batches.proofs.Writing.{count-digits, count-read, cut-after, cut-before, cut-there, digits-plain}
use Rattle.scripts.specs.Script.{batch_of, command_of, first_command, with_command, with_event}
use Rattle.scripts.specs.Written.{command_text, script_text, CanBeWritten}
use Rattle.scripts.proofs.ScriptSteps.{script_from, script_from-step, script_from-nil}

-- a line before others has its command
front-of-line : (line rest : List ℕ) → list_any is_line_end line ≡ false → first_command (line ++ (10 ∷ rest)) ≡ command_of line rest
front-of-line line rest none =
    rw (cut-there is_line_end line 10 rest none refl, cut-before is_line_end line 10 rest none refl, cut-after is_line_end line 10 rest none refl) refl

-- a command is read back, and the bytes after it are the rest
read-back : (event : Event) (rest : List ℕ) → CanBeWritten event → first_command (command_text event ++ rest) ≡ Some (event, rest)
read-back (Query text) rest can =
    let word = codes "QUERY " in
    ap (λ (x : List ℕ). first_command (word ++ x)) (append_assoc text (10 ∷ []) rest)
    ∙ front-of-line (word ++ text) rest can
read-back (Batch bytes) rest can =
    let n = length bytes in
    let word = codes "BATCH " in
    let digits = (digits-plain (decimal n) (count-digits n can)).1 in
    let enough : nat_lt (length (bytes ++ rest)) n ≡ false = grind (arith, nat_tests, length-append bytes rest) in
    ap (λ (x : List ℕ). first_command (word ++ x)) (append_assoc (decimal n) (10 ∷ bytes) rest)
    ∙ (front-of-line (word ++ decimal n) (bytes ++ rest) digits
    ∙ (ap (λ count. batch_of count (bytes ++ rest)) (count-read n can)
    ∙ rw (enough, take-append_seam bytes rest, drop-append_seam bytes rest) refl))

-- a command is no empty text
some-written : (event : Event) (rest : List ℕ) → 1 ≤ length (command_text event ++ rest)
some-written (Query text) rest = omega arith
some-written (Batch bytes) rest = omega arith

pub written-read : (number : ℕ) (events : List Event) → All CanBeWritten events → script_from number (script_text events) ≡ Ok events
written-read number [] can = script_from-nil number
written-read number (event ∷ events) can =
    let rest = script_text events in
    script_from-step number (command_text event ++ rest) (some-written event rest)
    ∙ (ap (λ o. with_command number o (script_from (number + 1))) (read-back event rest (All-head CanBeWritten event events can))
    ∙ ap (with_event event) (written-read (number + 1) events (All-tail CanBeWritten event events can)))
