-- The texts of replies, and of the fault of a script (docs/SERVICE.md, "Sessions").
use Rattle.std.specs.Prelude.{ℕ, zero, suc, List, [], ◌∷◌, ◌++◌, length, take, drop, codes}
use Rattle.std.specs.List.{flat_map}
use Rattle.std.specs.Fmt.{decimal}
use Rattle.hex.specs.Hex.{encode_lower}
use Rattle.batches.specs.Fault.{number_of}
use Rattle.operations.specs.Mime.{mime_text}
use Rattle.answers.specs.declared.answer.Answer.{Answer}
use Rattle.operations.specs.declared.mime.Mime.{Mime}
use Rattle.operations.specs.declared.mime.Mime.TheVariants.{Png, Pixmap, ArbitraryMap, Xml, Plain}
use Rattle.mapmachine.specs.declared.reply.Reply.{Reply}
use Rattle.mapmachine.specs.declared.reply.Reply.TheVariants.{Answered, Published, Refused, NoMemory}

-- a line of hexadecimal
abbrev pub hex_line : List ℕ → List ℕ
hex_line bytes = encode_lower bytes ++ codes "\n"

-- bytes in hexadecimal, 32 a line, within so many lines
unfoldable pub hex_within : ℕ → List ℕ → List ℕ
hex_within n [] = []
hex_within zero (b ∷ bs) = []
hex_within (suc n) (b ∷ bs) = hex_line (take 32 (b ∷ bs)) ++ hex_within n (drop 32 (b ∷ bs))

-- bytes in hexadecimal, 32 a line
abbrev pub hex_lines : List ℕ → List ℕ
hex_lines bytes = hex_within (length bytes) bytes

-- the text of a body: pictures in hexadecimal
abbrev pub body_text : Mime → List ℕ → List ℕ
body_text Png body = hex_lines body
body_text Pixmap body = hex_lines body
body_text ArbitraryMap body = hex_lines body
body_text Xml body = body
body_text Plain body = body

-- the line before a body: its mime type, and how many bytes it has
abbrev pub answer_line : Answer → List ℕ
answer_line answer = codes "ANSWER " ++ (mime_text answer.mime ++ (codes " " ++ (decimal (length answer.body) ++ codes "\n")))

-- the text of a reply: of a batch the number that it was published as, or its first fault, by the number of its command and that of its kind
abbrev pub reply_text : Reply → List ℕ
reply_text (Answered answer) = answer_line answer ++ body_text answer.mime answer.body
reply_text (Published sequence) = codes "PUBLISHED " ++ (decimal sequence ++ codes "\n")
reply_text (Refused fault) =
    codes "REFUSED " ++ (decimal fault.index ++ (codes " " ++ (decimal (number_of fault.kind) ++ codes "\n")))
reply_text NoMemory = codes "NOMEMORY\n"

-- the text of replies, one after the other
abbrev pub transcript : List Reply → List ℕ
transcript replies = flat_map reply_text replies

-- the fault of a script, by the number of its first unreadable command
abbrev pub script_fault : ℕ → List ℕ
script_fault number = codes "fault script " ++ (decimal number ++ codes "\n")
