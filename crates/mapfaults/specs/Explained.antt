-- Where the first fault of a mapfile is (docs/MAPFILE.md, "Faults in words").
use Rattle.std.specs.Prelude.{◌≡◌, Bool, true, false, List, [], ◌∷◌, ◌++◌, map, Option, None, Some, Result, Ok, Err}
use Rattle.maplex.specs.Lexed.{Lexed}
use Rattle.maplex.specs.Token.{TokenValue}
use Rattle.mapwords.specs.declared.role.Block.TheVariants as block
use Rattle.maptree.specs.declared.context.Context.TheVariants.{Keywords}
use Rattle.maptree.specs.declared.draft.Drafts.{Drafts}
use Rattle.mapfaults.specs.declared.finding.Explained.{Explained}
use Rattle.mapfaults.specs.declared.finding.Finding.{Finding}
use Rattle.mapfaults.specs.declared.finding.Finding.TheVariants as finding
use Rattle.mapwords.specs.declared.fault.Fault.{Fault}
use Rattle.mapwords.specs.declared.fault.ParseFault.{ParseFault}
use Rattle.mapwords.specs.declared.fault.ParseFault.TheVariants.{At, NoMemory}
use Rattle.mapwords.specs.declared.fault.ParseKind.TheVariants.{UnknownWord}
use Rattle.mapwords.specs.declared.keyword.Keyword.TheVariants as keyword
use Rattle.maptree.specs.declared.tree.MapTree.{MapTree}
use Rattle.maptree.specs.Answer.{goes_on}
use Rattle.maptree.specs.Draft.{fresh}
use Rattle.mapwords.specs.Fault.{refused}
use Rattle.mapdefs.specs.Outcome.{and_then}
use Rattle.mapwords.specs.Keyword.{is_at}
use Rattle.mapfaults.specs.Opening.{OpeningValue, opening, opened}
use Rattle.maptree.specs.Source.{tree_of}
use Rattle.maptree.specs.Step.{read_token}

-- what is open, and what was read of the open blocks
pub record Standing : Type 0 where
  pub openings : List OpeningValue
  pub drafts : Drafts

-- these are open, and this was read of the open blocks
abbrev pub standing : List OpeningValue → Drafts → Standing
standing openings drafts = record { openings = openings; drafts = drafts }

-- MAP alone was read
abbrev pub begun : TokenValue → Standing
begun t = record { openings = opening (Keywords block.Map) t ∷ []; drafts = fresh }

-- a token is read in what is open
abbrev pub stepped_in : List OpeningValue → Drafts → TokenValue → Result Standing Fault
stepped_in [] d t = refused UnknownWord t
stepped_in (o ∷ outer) d t =
    and_then (read_token o.context d t) (λ step. Ok (record { openings = opened step.0 t o outer; drafts = step.1 }))

-- a token is read after others
abbrev pub stepped : Standing → TokenValue → Result Standing Fault
stepped s t = stepped_in s.openings s.drafts t

-- tokens are read, one after the other
unfoldable pub walked : Standing → List TokenValue → Result Standing Fault
walked s [] = Ok s
walked s (t ∷ ts) = and_then (stepped s t) (λ next. walked next ts)

-- these are open after some tokens that are read without a fault
pub record IsOpenAfter (s : Standing) (prefix : List TokenValue) (openings : List OpeningValue) : Type 0 where
  pub drafts : Drafts
  pub no_fault : walked s prefix ≡ Ok (standing openings drafts)

-- the tokens before this one are read without a fault, these are open then, and this one is refused with the fault
pub record IsFoundAt (s : Standing) (tokens : List TokenValue) (fault : Fault) (openings : List OpeningValue) (found : TokenValue) : Type 0 where
  pub before : List TokenValue
  pub after : List TokenValue
  pub cut : tokens ≡ before ++ (found ∷ after)
  pub open_before : IsOpenAfter s before openings
  pub is_refused : stepped_in openings open_before.drafts found ≡ Err fault

-- the fault is found at a token, or after the last one
abbrev pub IsAt : Standing → List TokenValue → Fault → List OpeningValue → Option TokenValue → Type 0
IsAt s tokens fault openings None = IsOpenAfter s tokens openings
IsAt s tokens fault openings (Some found) = IsFoundAt s tokens fault openings found

-- the fault that is reported
abbrev pub fault_in : Explained → Fault
fault_in e = record { line = e.line; kind = e.kind }

-- what is left to be read has this fault, and there it is found
pub record HasFault (reading : Result MapTree Fault) (s : Standing) (tokens : List TokenValue) (e : Explained) : Type 0 where
  pub fault : reading ≡ Err (fault_in e)
  pub position : IsAt s tokens (fault_in e) e.openings e.token

-- what is left to be read is found to have no fault, or its first one
abbrev pub IsFoundIn : Result MapTree Fault → Standing → List TokenValue → Finding → Type 0
IsFoundIn reading s tokens finding.Sound = (tree : MapTree) × (reading ≡ Ok tree)
IsFoundIn reading s tokens (finding.Faulty e) = HasFault reading s tokens e
IsFoundIn reading s tokens finding.NoMemory = Unit {0}

-- what is read from here on
abbrev pub read_on : Standing → Lexed → Result MapTree Fault
read_on s left = goes_on left.tail (map (λ (o : OpeningValue). o.context) s.openings) (Ok (s.drafts, left.tokens))

-- this is found where the tokens that are left are read on
abbrev pub IsWalked : Standing → Lexed → Finding → Type 0
IsWalked s left f = IsFoundIn (read_on s left) s left.tokens f

-- a token is refused with this fault, and leaves open what was open
pub record IsRefusal (s : Standing) (t : TokenValue) (openings : List OpeningValue) (fault : Fault) : Type 0 where
  pub is_refused : stepped s t ≡ Err fault
  pub still_open : openings ≡ s.openings

-- why a token is not read: it is refused, or memory was refused
abbrev pub IsStop : Standing → TokenValue → List OpeningValue → ParseFault → Type 0
IsStop s t openings (At line kind) = IsRefusal s t openings (record { line = line; kind = kind })
IsStop s t openings NoMemory = Unit {0}

-- a mapfile has no token, and nothing is open
pub record HasNoToken (tokens : List TokenValue) (openings : List OpeningValue) : Type 0 where
  pub no_token : tokens ≡ []
  pub nothing_open : openings ≡ []

-- the first token of a mapfile isn't MAP, and nothing is open
pub record BeginsWithout (tokens : List TokenValue) (openings : List OpeningValue) (found : TokenValue) : Type 0 where
  pub after : List TokenValue
  pub is_first : tokens ≡ found ∷ after
  pub is_not_map : is_at keyword.Map found ≡ false
  pub nothing_open : openings ≡ []

-- without MAP the fault is found at the first token, or there is none
abbrev pub IsWithoutMap : List TokenValue → List OpeningValue → Option TokenValue → Type 0
IsWithoutMap tokens openings None = HasNoToken tokens openings
IsWithoutMap tokens openings (Some found) = BeginsWithout tokens openings found

-- the fault is found after a first token that is MAP, or without MAP
abbrev pub IsLocatedBy : Bool → TokenValue → List TokenValue → Fault → List OpeningValue → Option TokenValue → Type 0
IsLocatedBy true t ts fault openings token = IsAt (begun t) ts fault openings token
IsLocatedBy false t ts fault openings token = IsWithoutMap (t ∷ ts) openings token

-- where the first fault of a mapfile is found
abbrev pub IsLocated : List TokenValue → Fault → List OpeningValue → Option TokenValue → Type 0
IsLocated [] fault openings token = IsWithoutMap [] openings token
IsLocated (t ∷ ts) fault openings token = IsLocatedBy (is_at keyword.Map t) t ts fault openings token

-- a mapfile has this first fault, and there it is found
pub record IsExplained (source : Lexed) (e : Explained) : Type 0 where
  pub fault : tree_of source ≡ Err (fault_in e)
  pub position : IsLocated source.tokens (fault_in e) e.openings e.token

-- what is found of a mapfile: a tree, or its first fault
abbrev pub IsFinding : Lexed → Finding → Type 0
IsFinding source finding.Sound = (tree : MapTree) × (tree_of source ≡ Ok tree)
IsFinding source (finding.Faulty e) = IsExplained source e
IsFinding source finding.NoMemory = Unit {0}
