-- The message on a byte that no token may have (docs/MAPFILE.md, "Faults in words").
use Rattle.std.specs.Prelude.{◌≡◌, ℕ, List, Option, IfSome, Err, codes}
use Rattle.maplex.specs.declared.bad_byte.ByteFault.{ByteFault}
use Rattle.maplex.specs.declared.bad_byte.ByteFault.TheVariants as wrong
use Rattle.maplex.specs.declared.fault.LexKind.{LexKind}
use Rattle.maplex.specs.declared.fault.LexKind.TheVariants.{BadByte}
use Rattle.maplex.specs.ByteFault.{byte_fault}
use Rattle.maplex.specs.Lexed.{lexed}
use Rattle.mapwords.specs.declared.fault.Fault.{Fault}
use Rattle.mapwords.specs.declared.fault.ParseKind.{ParseKind}
use Rattle.mapwords.specs.declared.fault.ParseKind.TheVariants.{Lex}
use Rattle.maptree.specs.Source.{tree_of}

-- the message on a bad byte, by what is wrong with it
unfoldable pub byte_message : ByteFault → List ℕ
byte_message wrong.ClosesNothing = codes "a bracket that closes nothing"
byte_message wrong.Control = codes "a control character"
byte_message wrong.NotUtf8 = codes "a byte that is not UTF-8: convert the mapfile, as with iconv -f ISO-8859-1 -t UTF-8"

-- a message on a bad byte says what is wrong with it; what it says of a token that isn't closed or is too long has no definition
abbrev pub IsOnLex : Option ByteFault → LexKind → List ℕ → Type 0
IsOnLex found BadByte message = IfSome found (λ wrong. message ≡ byte_message wrong)
IsOnLex found kind message = Unit {0}

-- the same of a message on a fault of any kind
abbrev pub IsOnKind : Option ByteFault → ParseKind → List ℕ → Type 0
IsOnKind found (Lex kind) message = IsOnLex found kind message
IsOnKind found kind message = Unit {0}

-- a message is on the first fault of a source
pub record IsOnSource (source message : List ℕ) : Type 0 where
  pub fault : Fault
  pub is_first : tree_of (lexed source) ≡ Err fault
  pub on : IsOnKind (byte_fault source) fault.kind message
