-- The meaning of tokens in one pass over them, as the reader of this crate takes it: drafts keep what was read of the
-- open blocks. `Meaning` says what a mapfile means, which is the same.
use Rattle.std.specs.Prelude.{ℕ, zero, suc, if◌then◌else◌, List, [], ◌∷◌, length, Result, Ok, Err}
use Rattle.maplex.specs.declared.fault.Tail.{Tail}
use Rattle.maplex.specs.declared.fault.Tail.TheVariants.{Ends, Breaks}
use Rattle.maplex.specs.Lexed.{Lexed}
use Rattle.maplex.specs.Token.{TokenValue}
use Rattle.mapwords.specs.declared.role.Block.TheVariants as block
use Rattle.maptree.specs.declared.context.Context.{Context}
use Rattle.maptree.specs.declared.context.Context.TheVariants.{Keywords}
use Rattle.maptree.specs.declared.context.Move.TheVariants.{GoesOn, Enters, Leaves}
use Rattle.mapwords.specs.declared.keyword.Keyword.TheVariants as keyword
use Rattle.mapwords.specs.declared.fault.Fault.{Fault}
use Rattle.mapwords.specs.declared.fault.ParseKind.TheVariants.{UnknownWord}
use Rattle.maptree.specs.declared.tree.MapTree.{MapTree}
use Rattle.maptree.specs.declared.draft.Drafts.{Drafts}
use Rattle.mapwords.specs.Fault.{refused, lexical, missing}
use Rattle.mapdefs.specs.Outcome.{and_then}
use Rattle.mapwords.specs.Keyword.{is_at}
use Rattle.maptree.specs.Draft.{fresh}
use Rattle.maptree.specs.Step.{read_token}

-- What is read in a context up to its end, within so many tokens: what was read of the open blocks, and the tokens that
-- are left. A context that is entered is read first, and then this one goes on.
unfoldable pub reads : Tail → ℕ → Context → Drafts → List TokenValue → Result (Drafts × List TokenValue) Fault
reads tail n context d [] = Err (missing tail)
reads tail zero context d (t ∷ ts) = Err (missing tail)
reads tail (suc n) context d (t ∷ ts) = and_then (read_token context d t) (λ step. elim step.0 [
  | GoesOn next ↦ reads tail n next step.1 ts
  | Enters inner ↦ and_then (reads tail n inner step.1 ts) (λ ended. reads tail n context ended.0 ended.1)
  | Leaves ↦ Ok (step.1, ts)
])

-- nothing comes after the END of MAP
abbrev pub alone : Tail → Drafts → List TokenValue → Result MapTree Fault
alone (Ends line) d [] = Ok d.map
alone (Breaks f) d [] = Err (lexical f)
alone tail d (t ∷ ts) = refused UnknownWord t

-- the keywords of MAP up to its END, and nothing more
abbrev pub map_body : Tail → List TokenValue → Result MapTree Fault
map_body tail ts = and_then (reads tail (length ts) (Keywords block.Map) fresh ts) (λ ended. alone tail ended.0 ended.1)

-- what a pass over a list of tokens gives, with what comes after them: one tree, or the first fault in their order
abbrev pub passed : List TokenValue → Tail → Result MapTree Fault
passed [] tail = Err (missing tail)
passed (t ∷ ts) tail = if is_at keyword.Map t then map_body tail ts else refused UnknownWord t

-- what a pass over the tokens of a source gives
abbrev pub pass_of : Lexed → Result MapTree Fault
pass_of source = passed source.tokens source.tail
