-- What a reader reads in the tokens that are left (docs/MAPFILE.md, "Blocks and words").
use Rattle.std.specs.Prelude.{◌≡◌, ◌⊎◌, List, [], ◌∷◌, length, Result, Ok, Err, IfErr}
use Rattle.maplex.specs.declared.fault.LexFault.{LexFault}
use Rattle.maplex.specs.declared.fault.Tail.{Tail}
use Rattle.maplex.specs.declared.fault.Tail.TheVariants.{Breaks}
use Rattle.maplex.specs.Token.{TokenValue}
use Rattle.maptree.specs.declared.context.Context.{Context}
use Rattle.maptree.specs.declared.context.Move.{Move}
use Rattle.maptree.specs.declared.context.Move.TheVariants.{GoesOn, Enters, Leaves}
use Rattle.mapwords.specs.declared.fault.Fault.{Fault}
use Rattle.mapwords.specs.declared.fault.ParseKind.TheVariants.{BadExpression}
use Rattle.mapwords.specs.declared.fault.ParseFault.{ParseFault}
use Rattle.mapwords.specs.declared.fault.ParseFault.TheVariants.{At, NoMemory}
use Rattle.maptree.specs.declared.tree.MapTree.{MapTree}
use Rattle.maptree.specs.declared.draft.Drafts.{Drafts}
use Rattle.maptree.specs.declared.reader.Reader.{Reader}
use Rattle.mapwords.specs.Fault.{lexical}
use Rattle.mapdefs.specs.Outcome.{and_then}
use Rattle.maptree.specs.Pass.{reads, alone}

-- the contexts that are open after a token of a context inside others, the innermost first
abbrev pub moved : Move → Context → List Context → List Context
moved (GoesOn next) context outer = next ∷ outer
moved (Enters inner) context outer = inner ∷ context ∷ outer
moved Leaves context outer = outer

-- the open contexts are read to their ends, the innermost first, and then the map is whole
abbrev pub goes_on : Tail → List Context → Result (Drafts × List TokenValue) Fault → Result MapTree Fault
goes_on tail [] ended = and_then ended (λ e. alone tail e.0 e.1)
goes_on tail (context ∷ outer) ended =
    goes_on tail outer (and_then ended (λ e. reads tail (length e.1) context e.0 e.1))

-- the map that a reader reads in the tokens that are left, or the first fault in them
abbrev pub answer : Reader → List TokenValue → Tail → Result MapTree Fault
answer r ts tail = goes_on tail r.contexts (Ok (r.drafts, ts))

-- memory may be refused where all is well up to a lexical fault that follows, or at an expression with a fault
abbrev pub IsSoundBefore : LexFault → Result MapTree Fault → Type 0
IsSoundBefore f reading = (reading ≡ Err (lexical f)) ⊎ IfErr reading (λ g. g.kind ≡ BadExpression)

-- The error of reading one token: its fault is the fault whatever follows. Where memory was refused it has none but
-- that of an expression, so that the fault of what follows is the first.
abbrev pub IsStepErrorOf : Reader → TokenValue → ParseFault → Type 0
IsStepErrorOf r t (At line kind) =
    (ts : List TokenValue) (tail : Tail) → answer r (t ∷ ts) tail ≡ Err (record { line = line; kind = kind })
IsStepErrorOf r t NoMemory = (f : LexFault) → IsSoundBefore f (answer r (t ∷ []) (Breaks f))
