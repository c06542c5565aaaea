-- Faults, and the numbers of their kinds (docs/MAPFILE.md, "Faults").
use Rattle.std.specs.Prelude.{◌≡◌, ℕ, Result, Ok, Err}
use Rattle.maplex.specs.declared.fault.LexFault.{LexFault}
use Rattle.maplex.specs.declared.fault.Tail.{Tail}
use Rattle.maplex.specs.declared.fault.Tail.TheVariants.{Ends, Breaks}
use Rattle.maplex.specs.Token.{TokenValue}
use Rattle.mapwords.specs.declared.fault.Fault.{Fault}
use Rattle.mapwords.specs.declared.fault.ParseKind.{ParseKind}
use Rattle.mapwords.specs.declared.fault.ParseKind.TheVariants.{Lex, UnknownWord, WrongValue, MissingEnd, MissingValue, Limit, MissingFile, DuplicateName, BadExpression, BadFile}
use Rattle.mapwords.specs.declared.fault.ParseFault.{ParseFault}
use Rattle.mapwords.specs.declared.fault.ParseFault.TheVariants.{At, NoMemory}

-- the number of a kind
abbrev pub number_of : ParseKind → ℕ
number_of (Lex kind) = 1
number_of UnknownWord = 2
number_of WrongValue = 3
number_of MissingEnd = 4
number_of MissingValue = 5
number_of Limit = 6
number_of MissingFile = 7
number_of DuplicateName = 8
number_of BadExpression = 9
number_of BadFile = 10

-- a fault of a kind at a token
abbrev pub fault_of : ParseKind → TokenValue → Fault
fault_of kind t = record { line = t.line; kind = kind }

-- the source is refused at a token
abbrev pub refused : {A : Type 0} → ParseKind → TokenValue → Result A Fault
refused kind t = Err (fault_of kind t)

-- the fault of a source that can't be cut into further tokens
abbrev pub lexical : LexFault → Fault
lexical f = record { line = f.line; kind = Lex f.kind }

-- the fault where a further token is needed, by what comes after the last one
abbrev pub missing : Tail → Fault
missing (Ends line) = record { line = line; kind = MissingEnd }
missing (Breaks f) = lexical f

-- the error is the fault of this reading, or memory was refused
abbrev pub IsFaultOf : {A : Type 0} → Result A Fault → ParseFault → Type 0
IsFaultOf reading (At line kind) = reading ≡ Err (record { line = line; kind = kind })
IsFaultOf reading NoMemory = Unit {0}

-- a reading has no fault, or only that of an expression, whose tree is made while its text is read
abbrev pub IsSound : {A : Type 0} → Result A Fault → Type 0
IsSound (Ok a) = Unit {0}
IsSound (Err f) = f.kind ≡ BadExpression

-- the error is the fault of this reading, or memory was refused to a sound one
abbrev pub IsErrorOf : {A : Type 0} → Result A Fault → ParseFault → Type 0
IsErrorOf reading (At line kind) = reading ≡ Err (record { line = line; kind = kind })
IsErrorOf reading NoMemory = IsSound reading
