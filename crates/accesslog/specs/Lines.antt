-- The lines of a log (docs/SERVICE.md, "Log").
use Rattle.std.specs.Prelude.{ℕ, ◌+◌, ◌/◌, ◌%◌, nat_lt, nat_le, ◌==◌, ◌||◌, Bool, List, [], ◌∷◌, ◌++◌, if◌then◌else◌, codes}
use Rattle.std.specs.List.{flat_map}
use Rattle.std.specs.Fmt.{decimal}
use Rattle.accesslog.specs.declared.line.AnswerNote.{AnswerNote}
use Rattle.accesslog.specs.declared.line.Cause.{Cause}
use Rattle.accesslog.specs.declared.hint.Hint.{Hint}
use Rattle.accesslog.specs.declared.hint.Hint.TheVariants.{OlderName, NoMercator, UnknownSystem, NotFour, NoNumber, NoAreaByLatitudes, NoArea}
use Rattle.accesslog.specs.declared.line.Cause.TheVariants.{Idle, Head, Answer, Rate, Fault, GaveWay, Busy, Stopped}

-- a byte is shown by its two hexadecimal digits: those outside 33 to 126, a quotation mark and a backslash
abbrev pub is_escaped : ℕ → Bool
is_escaped byte = nat_lt byte 33 || nat_lt 126 byte || (byte == 34) || (byte == 92)

-- a hexadecimal digit, as a letter
abbrev pub hex_digit : ℕ → ℕ
hex_digit digit = if nat_lt digit 10 then 48 + digit else (87 + digit)

-- the text of a byte
abbrev pub escaped_byte : ℕ → List ℕ
escaped_byte byte = if is_escaped byte then (92 ∷ 120 ∷ hex_digit (byte / 16) ∷ hex_digit (byte % 16) ∷ []) else byte ∷ []

-- the text of bytes
abbrev pub escaped : List ℕ → List ℕ
escaped bytes = flat_map escaped_byte bytes

-- the line on an answer: the number of its connection, the target of its request, its status, its bytes and its milliseconds
abbrev pub answer_line : AnswerNote → List ℕ
answer_line note =
    codes "answer " ++ (decimal note.connection ++ (codes " \"" ++ (escaped note.target.now ++ (codes "\" " ++ (decimal note.status
    ++ (codes " " ++ (decimal note.bytes ++ (codes " " ++ (decimal note.millis ++ codes "\n")))))))))

-- why a connection ended
unfoldable pub cause_word : Cause → List ℕ
cause_word Idle = codes "idle"
cause_word Head = codes "head"
cause_word Answer = codes "answer"
cause_word Rate = codes "rate"
cause_word Fault = codes "fault"
cause_word GaveWay = codes "evicted"
cause_word Busy = codes "busy"
cause_word Stopped = codes "stopped"

-- the line on a connection that ended before its client had all of its answers
abbrev pub end_line : ℕ → Cause → List ℕ
end_line connection cause = codes "end " ++ (decimal connection ++ (codes " " ++ (cause_word cause ++ codes "\n")))

-- the likely cause of a fault of CRS or BBOX
unfoldable pub hint_text : Hint → List ℕ
hint_text OlderName = codes "SRS is the name of WMS 1.1.1: 1.3.0 has CRS"
hint_text NoMercator = codes "EPSG:3857 isn't offered: CONFIG \"WMS_CRS\" \"EPSG:3857\" in MAP offers it"
hint_text UnknownSystem = codes "CRS is none of CRS:84, EPSG:4326 and, where the map offers it, EPSG:3857"
hint_text NotFour = codes "BBOX isn't four numbers between commas"
hint_text NoNumber = codes "a number of BBOX can't be read or is too large: degrees go to 1,000, and EPSG:3857 is in metres"
hint_text NoAreaByLatitudes = codes "BBOX has no area: in EPSG:4326 it is south,west,north,east, which WMS 1.1.1 has as west,south,east,north"
hint_text NoArea = codes "BBOX has no area: it is west,south,east,north"

-- the line on the likely cause of a fault, by the number of its connection
abbrev pub hint_line : ℕ → Hint → List ℕ
hint_line connection hint = codes "hint " ++ (decimal connection ++ (codes " " ++ (hint_text hint ++ codes "\n")))

-- the line on a command of an administrator: the number of the connection, and the line that answers it
abbrev pub command_line : ℕ → List ℕ → List ℕ
command_line connection answer = codes "batch " ++ (decimal connection ++ (codes " " ++ answer))

-- the line on lines that were dropped
abbrev pub dropped_line : ℕ → List ℕ
dropped_line count = codes "dropped " ++ (decimal count ++ codes "\n")
