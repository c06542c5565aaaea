-- Reading a mapfile up to its first fault, with what is open there.
use Rattle.std.proofs.Common.{◌≡◌, ◌∙◌, ℕ, suc, ◌==◌, true, false, List, [], ◌∷◌, length, map, refl, sym, ap, subst, Option, None, Some, arith}
use Rattle.std.proofs.lemmas.Bool.Decides.{nat_tests}
use Rattle.std.specs.Prelude.{Result, Ok, Err}
use Rattle.maplex.specs.Lexed.{Lexed, with_token, stopped}
use Rattle.maplex.specs.declared.fault.LexFault.{LexFault}
use Rattle.maplex.specs.declared.fault.Tail.{Tail}
use Rattle.maplex.specs.declared.fault.Tail.TheVariants.{Ends, Breaks}
use Rattle.maplex.specs.Token.{TokenValue}
use Rattle.maptree.specs.declared.context.Context.{Context}
use Rattle.maptree.specs.declared.context.Move.{Move}
use Rattle.maptree.specs.declared.context.Move.TheVariants.{GoesOn, Enters, Leaves}
use Rattle.maptree.specs.declared.draft.Drafts.{Drafts}
use Rattle.mapfaults.specs.declared.finding.Explained.{Explained}
use Rattle.mapfaults.specs.declared.finding.Finding.{Finding}
use Rattle.mapfaults.specs.declared.finding.Finding.TheVariants as finding
use Rattle.mapwords.specs.declared.fault.Fault.{Fault}
use Rattle.mapwords.specs.declared.keyword.Keyword.TheVariants as keyword
use Rattle.mapwords.specs.declared.fault.ParseKind.{ParseKind}
use Rattle.mapwords.specs.declared.fault.ParseKind.TheVariants.{UnknownWord}
use Rattle.mapwords.specs.declared.fault.ParseFault.{ParseFault}
use Rattle.mapwords.specs.declared.fault.ParseFault.TheVariants.{At}
use Rattle.maptree.specs.Answer.{moved, goes_on}
use Rattle.mapfaults.specs.Explained.{Standing, IsOpenAfter, IsAt, IsRefusal, IsStop, IsWalked, IsFinding, begun, fault_in, standing, stepped, stepped_in, walked}
use Rattle.mapwords.specs.Fault.{missing, lexical, fault_of}
use Rattle.mapdefs.specs.Outcome.{and_then}
use Rattle.mapwords.specs.Keyword.{is_at}
use Rattle.mapfaults.specs.Opening.{OpeningValue, opened}
use Rattle.maptree.specs.Pass.{alone}
use Rattle.maptree.specs.Step.{read_token}
use Rattle.maptree.proofs.Joining.{answer-open, answer-broken, answer-moved, answer-refused}
use Rattle.maptree.proofs.OnePass.{same-meaning}

abbrev contexts : List OpeningValue → List Context
contexts openings = map (λ (o : OpeningValue). o.context) openings

-- what is open moves as the contexts do
opened-contexts : (move : Move) (t : TokenValue) (o : OpeningValue) (outer : List OpeningValue) → contexts (opened move t o outer) ≡ moved move o.context (contexts outer)
opened-contexts (GoesOn next) t o outer = refl
opened-contexts (Enters inner) t o outer = refl
opened-contexts Leaves t o outer = refl

module _ (t : TokenValue) (ts : List TokenValue) (tail : Tail) (d : Drafts) where
  err-step : (o : OpeningValue) (outer : List OpeningValue) (f : Fault) (r : Result (Move × Drafts) Fault) →
      and_then r (λ step. Ok (standing (opened step.0 t o outer) step.1)) ≡ Err f → r ≡ Err f
  err-step o outer f (Ok step) p = let no : ⊥ = cc in absurd no
  err-step o outer f (Err g) p = let same : g ≡ f = cc in ap (λ x. Err x) same

  -- a token that is refused is the fault
  refused-in : (openings : List OpeningValue) (f : Fault) → stepped_in openings d t ≡ Err f → goes_on tail (contexts openings) (Ok (d, t ∷ ts)) ≡ Err f
  refused-in [] f p =
      let same : fault_of UnknownWord t ≡ f = cc in
      elim tail as (λ v. alone v d (t ∷ ts) ≡ Err f) [ Ends line ↦ ap (λ x. Err x) same | Breaks h ↦ ap (λ x. Err x) same ]
  refused-in (o ∷ outer) f p = answer-refused tail t ts o.context (contexts outer) d f (err-step o outer f (read_token o.context d t) p)

  taken-step : (o : OpeningValue) (outer : List OpeningValue) (s : Standing) (r : Result (Move × Drafts) Fault) → read_token o.context d t ≡ r →
      and_then r (λ step. Ok (standing (opened step.0 t o outer) step.1)) ≡ Ok s →
      goes_on tail (o.context ∷ contexts outer) (Ok (d, t ∷ ts)) ≡ goes_on tail (contexts s.openings) (Ok (s.drafts, ts))
  taken-step o outer s (Ok step) is p =
      let same : standing (opened step.0 t o outer) step.1 ≡ s = cc in
      subst (λ v. goes_on tail (o.context ∷ contexts outer) (Ok (d, t ∷ ts)) ≡ goes_on tail (contexts v.openings) (Ok (v.drafts, ts))) same
      (answer-moved tail t ts o.context (contexts outer) d step.0 step.1 is
      ∙ ap (λ cs. goes_on tail cs (Ok (step.1, ts))) (sym (opened-contexts step.0 t o outer)))
  taken-step o outer s (Err g) is p = let no : ⊥ = cc in absurd no

  -- after a token that is taken, the others are read in what is open then
  taken-in : (openings : List OpeningValue) (s : Standing) → stepped_in openings d t ≡ Ok s →
      goes_on tail (contexts openings) (Ok (d, t ∷ ts)) ≡ goes_on tail (contexts s.openings) (Ok (s.drafts, ts))
  taken-in [] s p = let no : ⊥ = cc in absurd no
  taken-in (o ∷ outer) s p = taken-step o outer s (read_token o.context d t) refl p

-- a token that is taken, and then others
walked-on : (s next end : Standing) (t : TokenValue) (prefix : List TokenValue) → stepped s t ≡ Ok next → walked next prefix ≡ Ok end →
    walked s (t ∷ prefix) ≡ Ok end
unfolding walked
walked-on s next end t prefix step p = rw step p

after-back : (s next : Standing) (t : TokenValue) (prefix : List TokenValue) (openings : List OpeningValue) → stepped s t ≡ Ok next →
    IsOpenAfter next prefix openings → IsOpenAfter s (t ∷ prefix) openings
after-back s next t prefix openings step p = record {
  drafts = p.drafts;
  no_fault = walked-on s next (standing openings p.drafts) t prefix step p.no_fault;
}

position-back : (s next : Standing) (t : TokenValue) (ts : List TokenValue) (fault : Fault) (openings : List OpeningValue) (token : Option TokenValue) → stepped s t ≡ Ok next →
    IsAt next ts fault openings token → IsAt s (t ∷ ts) fault openings token
position-back s next t ts fault openings None step p = after-back s next t ts openings step p
position-back s next t ts fault openings (Some found) step p = record {
  before = t ∷ p.before;
  after = p.after;
  cut = ap (λ us. t ∷ us) p.cut;
  open_before = record {
    drafts = p.open_before.drafts;
    no_fault = walked-on s next (standing openings p.open_before.drafts) t p.before step p.open_before.no_fault;
  };
  is_refused = p.is_refused;
}

-- what is found after a token that is taken is found before it
pub walked-back : (s next : Standing) (t : TokenValue) (left : Lexed) (f : Finding) → stepped s t ≡ Ok next → IsWalked next left f → IsWalked s (with_token t left) f
walked-back s next t left finding.Sound step p = (p.0, taken-in t left.tokens left.tail s.drafts s.openings next step ∙ p.1)
walked-back s next t left (finding.Faulty e) step p = record {
  fault = taken-in t left.tokens left.tail s.drafts s.openings next step ∙ p.fault;
  position = position-back s next t left.tokens (fault_in e) e.openings e.token step p.position;
}
walked-back s next t left finding.NoMemory step p = tt

-- no token was read yet
walked-none : (s : Standing) (openings : List OpeningValue) → openings ≡ s.openings → walked s [] ≡ Ok (standing openings s.drafts)
unfolding walked
walked-none s openings same = rw same refl

open-here : (s : Standing) (openings : List OpeningValue) → openings ≡ s.openings → IsOpenAfter s [] openings
open-here s openings same = record { drafts = s.drafts; no_fault = walked-none s openings same }

-- at a token that is refused its fault is found
pub stopped-here : (s : Standing) (t : TokenValue) (left : Lexed) (e : Explained) → IsRefusal s t e.openings (fault_in e) → e.token ≡ Some t →
    IsWalked s (with_token t left) (finding.Faulty e)
stopped-here s t left e stop token = record {
  fault = refused-in t left.tokens left.tail s.drafts s.openings (fault_in e) stop.is_refused;
  position = rw token (record {
    before = [];
    after = left.tokens;
    cut = refl;
    open_before = record { drafts = s.drafts; no_fault = walked-none s e.openings stop.still_open };
    is_refused = subst (λ openings. stepped_in openings s.drafts t ≡ Err (fault_in e)) (sym stop.still_open) stop.is_refused;
  });
}

pub stopped-by : (s : Standing) (t : TokenValue) (left : Lexed) (e : Explained) (line : ℕ) (kind : ParseKind) (openings : List OpeningValue) (error : ParseFault) →
    error ≡ At line kind → IsStop s t openings error → e.line ≡ line → e.kind ≡ kind → e.openings ≡ openings → e.token ≡ Some t →
    IsWalked s (with_token t left) (finding.Faulty e)
stopped-by s t left e line kind openings error at stop is_line is_kind is_open token =
    let known = subst (IsStop s t openings) at stop in
    stopped-here s t left e (record { is_refused = rw (is_line, is_kind) known.is_refused; still_open = is_open ∙ known.still_open }) token

-- after the END of MAP the source may end
pub sound-here : (s : Standing) (end : ℕ) → (length s.openings == 0) ≡ true → IsWalked s (stopped (Ends end)) finding.Sound
sound-here s end none = sound-in s.openings s.drafts none where
  sound-in : (openings : List OpeningValue) (d : Drafts) → (length openings == 0) ≡ true → IsWalked (standing openings d) (stopped (Ends end)) finding.Sound
  sound-in [] d p = (d.map, refl)
  sound-in (o ∷ outer) d p =
      let some : (suc (length outer) == 0) ≡ false = grind (arith, nat_tests) in
      let no : ⊥ = cc in absurd no

open-ends : (tail : Tail) (openings : List OpeningValue) (d : Drafts) → (length openings == 0) ≡ false → goes_on tail (contexts openings) (Ok (d, [])) ≡ Err (missing tail)
open-ends tail [] d p = let no : ⊥ = cc in absurd no
open-ends tail (o ∷ outer) d p = answer-open tail o.context (contexts outer) d

-- inside a block it may not end, and it may break off nowhere
pub ends-here : (s : Standing) (end : ℕ) (e : Explained) → (length s.openings == 0) ≡ false → fault_in e ≡ missing (Ends end) →
    e.openings ≡ s.openings → e.token ≡ None → IsWalked s (stopped (Ends end)) (finding.Faulty e)
ends-here s end e some is same token = record {
  fault = open-ends (Ends end) s.openings s.drafts some ∙ ap (λ x. Err x) (sym is);
  position = rw token (open-here s e.openings same);
}

pub breaks-here : (s : Standing) (f : LexFault) (e : Explained) → fault_in e ≡ lexical f →
    e.openings ≡ s.openings → e.token ≡ None → IsWalked s (stopped (Breaks f)) (finding.Faulty e)
breaks-here s f e is same token = record {
  fault = answer-broken f (contexts s.openings) s.drafts ∙ ap (λ x. Err x) (sym is);
  position = rw token (open-here s e.openings same);
}

-- after MAP
pub after-map : (t : TokenValue) (left : Lexed) (f : Finding) → is_at keyword.Map t ≡ true → IsWalked (begun t) left f → IsFinding (with_token t left) f
after-map t left finding.Sound is p = (p.0, sym (same-meaning (t ∷ left.tokens) left.tail) ∙ rw is p.1)
after-map t left (finding.Faulty e) is p = record {
  fault = sym (same-meaning (t ∷ left.tokens) left.tail) ∙ rw is p.fault;
  position = rw is p.position;
}
after-map t left finding.NoMemory is p = tt
