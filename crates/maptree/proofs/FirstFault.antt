-- A fault in the prefix of a mapfile is its fault, whatever comes after it.
use Rattle.std.proofs.Common.{◌≡◌, ◌≢◌, ℕ, zero, suc, ◌≤◌, Bool, true, false, List, [], ◌∷◌, ◌++◌, length, refl, sym, ap, ◌∙◌, arith, length-append}
use Rattle.std.specs.Prelude.{Result, Ok, Err, if◌then◌else◌}
use Rattle.maplex.specs.declared.fault.LexFault.{LexFault}
use Rattle.maplex.specs.declared.fault.Tail.{Tail}
use Rattle.maplex.specs.declared.fault.Tail.TheVariants.{Ends, Breaks}
use Rattle.maplex.specs.Token.{TokenValue}
use Rattle.mapwords.specs.declared.role.Block.TheVariants as block
use Rattle.maptree.specs.declared.context.Context.{Context}
use Rattle.maptree.specs.declared.context.Context.TheVariants.{Keywords}
use Rattle.maptree.specs.declared.context.Move.{Move}
use Rattle.maptree.specs.declared.context.Move.TheVariants.{GoesOn, Enters, Leaves}
use Rattle.maptree.specs.declared.draft.Drafts.{Drafts}
use Rattle.mapwords.specs.declared.fault.Fault.{Fault}
use Rattle.mapwords.specs.declared.fault.ParseKind.TheVariants.{UnknownWord}
use Rattle.mapwords.specs.declared.keyword.Keyword.TheVariants as keyword
use Rattle.mapwords.specs.Fault.{lexical, refused}
use Rattle.mapdefs.specs.Outcome.{and_then}
use Rattle.mapwords.specs.Keyword.{is_at}
use Rattle.maptree.specs.Draft.{fresh}
use Rattle.maptree.specs.Step.{read_token}
use Rattle.maptree.specs.Meaning as meaning
use Rattle.maptree.specs.Meaning.{FirstFaultIsReported}
use Rattle.maptree.specs.Pass.{reads, alone, map_body, passed}
use Rattle.maptree.specs.Entries.{Entries}
use Rattle.maptree.proofs.OnePass.{to_tree, same-meaning}
use Rattle.maptree.proofs.Reading.{Ended, LeavesAtMost, read_after, reads-at_most}

module _ (f : LexFault) (tail : Tail) (rest : List TokenValue) where
  -- what is read where f ends the tokens, and what is read where these further ones follow
  abbrev Carries : Ended → Ended → Type 0
  Carries (Ok e) whole = whole ≡ Ok (e.0, e.1 ++ rest)
  Carries (Err g) whole = g ≢ lexical f → whole ≡ Err g

  carries-and_then : (k : ℕ) (front whole : Ended) (next other : Drafts × List TokenValue → Ended) → LeavesAtMost k front → Carries front whole → ((e : Drafts × List TokenValue) → length e.1 ≤ k → Carries (next e) (other (e.0, e.1 ++ rest))) → Carries (and_then front next) (and_then whole other)
  carries-and_then k (Ok e) whole next other l p q = rw p (q e l)
  carries-and_then k (Err g) whole next other l p q = λ differs. rw (p differs) refl

  module _ (n m : ℕ) (below : (context : Context) (d : Drafts) (ts : List TokenValue) → length (ts ++ rest) ≤ m → Carries (reads (Breaks f) n context d ts) (reads tail m context d (ts ++ rest))) where
    carries-move : (move : Move) (context : Context) (d : Drafts) (ts : List TokenValue) → length (ts ++ rest) ≤ m → Carries (read_after (Breaks f) n context ts (move, d)) (read_after tail m context (ts ++ rest) (move, d))
    carries-move (GoesOn next) context d ts p = below next d ts p
    carries-move (Enters inner) context d ts p =
        carries-and_then (length ts) (reads (Breaks f) n inner d ts) (reads tail m inner d (ts ++ rest)) _ _ (reads-at_most (Breaks f) n inner d ts) (below inner d ts p)
        (λ e l. below context e.0 e.1 (omega (arith, length-append e.1 rest, length-append ts rest)))
    carries-move Leaves context d ts p = refl

    carries-step : (step : Result (Move × Drafts) Fault) (context : Context) (ts : List TokenValue) → length (ts ++ rest) ≤ m → Carries (and_then step (read_after (Breaks f) n context ts)) (and_then step (read_after tail m context (ts ++ rest)))
    carries-step (Ok step) context ts p = carries-move step.0 context step.1 ts p
    carries-step (Err g) context ts p = λ differs. refl

  carries : (n m : ℕ) (context : Context) (d : Drafts) (ts : List TokenValue) → length (ts ++ rest) ≤ m → Carries (reads (Breaks f) n context d ts) (reads tail m context d (ts ++ rest))
  unfolding reads
  carries zero m context d [] p = λ differs. absurd (differs refl)
  carries (suc n) m context d [] p = λ differs. absurd (differs refl)
  carries zero m context d (t ∷ ts) p = λ differs. absurd (differs refl)
  carries (suc n) zero context d (t ∷ ts) p = absurd (omega arith)
  carries (suc n) (suc m) context d (t ∷ ts) p =
      carries-step n m (carries n m) (read_token context d t) context ts (omega arith)

  alone-carries : (g : Fault) (d : Drafts) (ts : List TokenValue) → alone (Breaks f) d ts ≡ Err g → g ≢ lexical f → alone tail d (ts ++ rest) ≡ Err g
  alone-carries g d [] p differs = let same : g ≡ lexical f = cc in absurd (differs same)
  alone-carries g d (t ∷ ts) p differs = elim tail as (λ v. alone v d (t ∷ (ts ++ rest)) ≡ Err g) [ Ends line ↦ p | Breaks h ↦ p ]

  body-carries : (g : Fault) (front whole : Ended) → Carries front whole → and_then front (λ e. alone (Breaks f) e.0 e.1) ≡ Err g → g ≢ lexical f → and_then whole (λ e. alone tail e.0 e.1) ≡ Err g
  body-carries g (Ok e) whole p q differs = rw p (alone-carries g e.0 e.1 q differs)
  body-carries g (Err h) whole p q differs =
      let same : h ≡ g = cc in rw (p (λ e. differs (sym same ∙ e)), same) refl

  opened-carries : (g : Fault) (t : TokenValue) (ts : List TokenValue) (begins : Bool) → (if begins then map_body (Breaks f) ts else refused UnknownWord t) ≡ Err g → g ≢ lexical f → (if begins then map_body tail (ts ++ rest) else refused UnknownWord t) ≡ Err g
  opened-carries g t ts true q differs =
      body-carries g _ _ (carries (length ts) (length (ts ++ rest)) (Keywords block.Map) fresh ts (omega arith)) q differs
  opened-carries g t ts false q differs = q

passed-carries : (front rest : List TokenValue) (f : LexFault) (g : Fault) (tail : Tail) → passed front (Breaks f) ≡ Err g → g ≢ lexical f → passed (front ++ rest) tail ≡ Err g
passed-carries [] rest f g tail p differs = let same : g ≡ lexical f = cc in absurd (differs same)
passed-carries (t ∷ ts) rest f g tail p differs = opened-carries f tail rest g t ts (is_at keyword.Map t) p differs

err-from : (g : Fault) (r : Result Entries Fault) → and_then r to_tree ≡ Err g → r ≡ Err g
err-from g (Ok own) p = let no : ⊥ = cc in absurd no
err-from g (Err h) p = let same : h ≡ g = cc in ap (λ x. Err x) same

pub first_fault : FirstFaultIsReported
first_fault front rest f g tail p differs =
    err-from g (meaning.meaning (front ++ rest) tail)
    (sym (same-meaning (front ++ rest) tail)
    ∙ passed-carries front rest f g tail (same-meaning front (Breaks f) ∙ ap (λ r. and_then r to_tree) p) differs)
