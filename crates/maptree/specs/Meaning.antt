-- What the tokens of a mapfile mean (docs/MAPFILE.md, "Blocks and words").
use Rattle.std.specs.Prelude.{◌≡◌, ◌≢◌, ℕ, ℤ, zero, suc, ◌≤◌, if◌then◌else◌, List, [], ◌∷◌, ◌++◌, length, Result, Ok, Err}
use Rattle.std.specs.Option.{ok_or}
use Rattle.maplex.specs.declared.fault.LexFault.{LexFault}
use Rattle.maplex.specs.declared.fault.Tail.{Tail}
use Rattle.maplex.specs.declared.fault.Tail.TheVariants as tails
use Rattle.maplex.specs.Token.{TokenValue}
use Rattle.mapwords.specs.declared.role.Block.{Block}
use Rattle.mapwords.specs.declared.role.Block.TheVariants as block
use Rattle.mapwords.specs.declared.keyword.Keyword.TheVariants as keyword
use Rattle.mapwords.specs.declared.fault.Fault.{Fault}
use Rattle.mapwords.specs.declared.fault.ParseKind.TheVariants.{UnknownWord, WrongValue, MissingValue}
use Rattle.maptree.specs.Data.{lacks_room}
use Rattle.maptree.specs.Entries.{Entries, Nothing, Vertex, with_said, with_block}
use Rattle.mapwords.specs.Fault.{fault_of, refused, lexical, missing}
use Rattle.mapdefs.specs.Outcome.{and_then}
use Rattle.mapwords.specs.Keyword.{is_at, is_end}
use Rattle.maptree.specs.Says.{says, Ends, Opens, Takes, Longitude, Skips}
use Rattle.maptree.specs.Tree.{files_used}
use Rattle.mapwords.specs.Given.{value_in}
use Rattle.mapwords.specs.Value.{coordinate_in}

-- the latitude of a vertex, and the tokens after it
abbrev pub latitude_in : Tail → List TokenValue → Result (ℤ × List TokenValue) Fault
latitude_in tail [] = Err (missing tail)
latitude_in tail (t ∷ ts) =
    if is_end t then refused MissingValue t
    else and_then (ok_or (coordinate_in t) (fault_of WrongValue t)) (λ y. Ok (y, ts))

-- The entries of a block up to its END, within so many tokens, and the tokens after it. `above` is what its parent says
-- before it, and `own` what it says itself so far. No other block counts.
unfoldable pub block_in : Tail → ℕ → Block → Entries → Entries → List TokenValue → Result (Entries × List TokenValue) Fault
block_in tail n b above own [] = Err (missing tail)
block_in tail zero b above own (t ∷ ts) = Err (missing tail)
block_in tail (suc n) b above own (t ∷ ts) = and_then (says b above own t) (λ saying. elim saying [
  | Ends ↦ Ok (own, ts)
  | Opens c ↦ and_then (block_in tail n c own Nothing ts) (λ inner. block_in tail n b above (with_block c inner.0 own) inner.1)
  | Takes expected ↦ and_then (value_in tail (lacks_room b (files_used own)) expected ts) (λ v. block_in tail n b above (with_said v.value own) v.rest)
  | Longitude x ↦ and_then (latitude_in tail ts) (λ y. block_in tail n b above (Vertex (record { x = x; y = y.0 }) own) y.1)
  | Skips ↦ block_in tail n b above own ts
])

-- nothing comes after the END of MAP
abbrev pub alone : Tail → Entries → List TokenValue → Result Entries Fault
alone (tails.Ends line) own [] = Ok own
alone (tails.Breaks f) own [] = Err (lexical f)
alone tail own (t ∷ ts) = refused UnknownWord t

-- the entries of MAP up to its END, and nothing more
abbrev pub map_in : Tail → List TokenValue → Result Entries Fault
map_in tail ts = and_then (block_in tail (length ts) block.Map Nothing Nothing ts) (λ own. alone tail own.0 own.1)

-- what a list of tokens means, with what comes after them: the entries of one MAP, or the first fault in their order
abbrev pub meaning : List TokenValue → Tail → Result Entries Fault
meaning [] tail = Err (missing tail)
meaning (t ∷ ts) tail = if is_at keyword.Map t then map_in tail ts else refused UnknownWord t

-- the law that more tokens than there are change nothing
abbrev pub CountIsEnough : Type 0
CountIsEnough = (tail : Tail) (n m : ℕ) (b : Block) (above own : Entries) (ts : List TokenValue) →
    length ts ≤ n → length ts ≤ m → block_in tail n b above own ts ≡ block_in tail m b above own ts

-- the law that the first fault is reported: where some tokens with a lexical fault after them have another fault, every
-- mapfile that begins with them has this fault
abbrev pub FirstFaultIsReported : Type 0
FirstFaultIsReported = (prefix rest : List TokenValue) (f : LexFault) (g : Fault) (tail : Tail) →
    meaning prefix (tails.Breaks f) ≡ Err g → g ≢ lexical f → meaning (prefix ++ rest) tail ≡ Err g
