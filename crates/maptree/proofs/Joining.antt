-- Reading an inner context, and then the contexts round it.
use Rattle.std.proofs.Common.{◌≡◌, List, [], ◌∷◌, length, inl, inr, refl, ap, ◌∙◌, arith}
use Rattle.std.specs.Prelude.{Result, Ok, Err}
use Rattle.maplex.specs.declared.fault.LexFault.{LexFault}
use Rattle.maplex.specs.declared.fault.Tail.{Tail}
use Rattle.maplex.specs.declared.fault.Tail.TheVariants.{Breaks}
use Rattle.maplex.specs.Token.{TokenValue}
use Rattle.maptree.specs.declared.context.Context.{Context}
use Rattle.maptree.specs.declared.context.Move.{Move}
use Rattle.maptree.specs.declared.context.Move.TheVariants.{GoesOn, Enters, Leaves}
use Rattle.maptree.specs.declared.draft.Drafts.{Drafts}
use Rattle.mapwords.specs.declared.fault.Fault.{Fault}
use Rattle.mapwords.specs.declared.fault.ParseFault.{ParseFault}
use Rattle.mapwords.specs.declared.fault.ParseFault.TheVariants.{At, NoMemory}
use Rattle.mapwords.specs.Fault.{IsFaultOf, IsSound, IsErrorOf, missing, lexical}
use Rattle.maptree.specs.declared.reader.Reader.{Reader}
use Rattle.maptree.specs.Step.{read_token}
use Rattle.maptree.specs.Pass.{reads}
use Rattle.maptree.specs.Answer.{moved, goes_on, answer, IsSoundBefore, IsStepErrorOf}
use Rattle.maptree.proofs.Reading.{same-after, reads-at_most, reads-enough}

-- a fault stays the fault of the map
pub goes_on-Err : (tail : Tail) (outer : List Context) (f : Fault) → goes_on tail outer (Err f) ≡ Err f
goes_on-Err tail [] f = refl
goes_on-Err tail (context ∷ outer) f = goes_on-Err tail outer f

-- inside MAP the tokens may not end
pub answer-open : (tail : Tail) (context : Context) (outer : List Context) (d : Drafts) → goes_on tail (context ∷ outer) (Ok (d, [])) ≡ Err (missing tail)
unfolding reads
answer-open tail context outer d = goes_on-Err tail outer (missing tail)

-- a lexical fault stays the fault of the map
pub answer-broken : (f : LexFault) (contexts : List Context) (d : Drafts) → goes_on (Breaks f) contexts (Ok (d, [])) ≡ Err (lexical f)
unfolding reads
answer-broken f [] d = refl
answer-broken f (context ∷ outer) d = goes_on-Err (Breaks f) outer (lexical f)

module _ (tail : Tail) (t : TokenValue) (ts : List TokenValue) (context : Context) (outer : List Context) (d : Drafts) where
  -- the fault of a token is the fault of the map
  pub answer-refused : (f : Fault) → read_token context d t ≡ Err f → goes_on tail (context ∷ outer) (Ok (d, t ∷ ts)) ≡ Err f
  unfolding reads
  answer-refused f p = rw p (goes_on-Err tail outer f)

  -- after a token the tokens that are left are read in the contexts that are open then
  pub answer-moved : (move : Move) (e : Drafts) → read_token context d t ≡ Ok (move, e) → goes_on tail (context ∷ outer) (Ok (d, t ∷ ts)) ≡ goes_on tail (moved move context outer) (Ok (e, ts))
  unfolding reads
  answer-moved (GoesOn next) e p = rw p refl
  answer-moved (Enters inner) e p =
      rw p (ap (goes_on tail outer) (same-after (length ts) (reads tail (length ts) inner e ts) _ _ (reads-at_most tail (length ts) inner e ts) (λ f q. reads-enough tail (length ts) (length f.1) context f.0 f.1 q (omega arith))))
  answer-moved Leaves e p = rw p refl

-- after a token without a fault, the lexical fault that follows is the first
module _ (f : LexFault) (t : TokenValue) (context : Context) (outer : List Context) (d : Drafts) where
  pub sound-moved : (move : Move) (e : Drafts) → read_token context d t ≡ Ok (move, e) → goes_on (Breaks f) (context ∷ outer) (Ok (d, t ∷ [])) ≡ Err (lexical f)
  sound-moved move e p = answer-moved (Breaks f) t [] context outer d move e p ∙ answer-broken f (moved move context outer) e

  sound-step : (step : Result (Move × Drafts) Fault) → IsSound step → read_token context d t ≡ step → IsSoundBefore f (goes_on (Breaks f) (context ∷ outer) (Ok (d, t ∷ [])))
  sound-step (Ok step) sound p = inl (sound-moved step.0 step.1 p)
  sound-step (Err fault) sound p = inr (rw (answer-refused (Breaks f) t [] context outer d fault p) sound)

-- the error of reading a token in the innermost context is the error of the reader's step
pub step-error : (t : TokenValue) (context : Context) (outer : List Context) (d : Drafts) (error : ParseFault) → IsErrorOf (read_token context d t) error → IsStepErrorOf (record { contexts = context ∷ outer; drafts = d }) t error
step-error t context outer d (At line kind) p = λ ts tail. answer-refused tail t ts context outer d (record { line = line; kind = kind }) p
step-error t context outer d NoMemory p = λ f. sound-step f t context outer d (read_token context d t) p refl

-- the error of the reader's step is the fault of all the tokens, or memory was refused
pub step-fault : (reader : Reader) (t : TokenValue) (ts : List TokenValue) (tail : Tail) (error : ParseFault) → IsStepErrorOf reader t error → IsFaultOf (answer reader (t ∷ ts) tail) error
step-fault reader t ts tail (At line kind) p = p ts tail
step-fault reader t ts tail NoMemory p = tt
