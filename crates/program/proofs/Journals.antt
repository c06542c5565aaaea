-- Journals as they are opened and kept.
use Rattle.std.proofs.lemmas.Bool.Decides.{nat_tests}
use Rattle.std.proofs.Common.{⊎_elim, inl, inr, ap, arith, subst, sym, ◌∙◌, ◌≡◌, ◌≢◌, ◌&&◌, ◌==◌, refl, ℕ, zero, suc, Bool, true, false, not, List, ◌++◌, Option, None, Some}
use Rattle.std.specs.Prelude.{MatchBool}
use Rattle.journalfile.proofs.Skipping.{empties, empties_short}
use Rattle.journalfile.specs.Keeping.{JournalHas}
use Rattle.keepers.specs.Keeping.{keeps_of}
use Rattle.keepers.specs.declared.cause.LogCause.{LogCause}
use Rattle.keepers.specs.declared.keeps.Keeps.{Ghosts as Keeps}
use Rattle.journalfile.specs.declared.writing.Journal.{Journal}
use Rattle.batches.specs.Batch.{State}
use Rattle.journal.specs.Name.{IsBounded, skipped_of}
use Rattle.journal.specs.declared.header.HeaderFault.TheVariants as header_fault
use Rattle.journal.specs.declared.name.JournalName.{JournalName}
use Rattle.journalfile.specs.Recovery.{IsFaultOf}
use Rattle.journalfile.specs.declared.recovery.RecoverFault.{RecoverFault}
use Rattle.journalfile.specs.declared.recovery.RecoverFault.TheVariants as recover_fault
use Rattle.journalfile.specs.Settled.{IsSettled}
use Rattle.journalfile.specs.declared.checkpoint.CompactedJournal.{CompactedJournal}
use Rattle.console.specs.Console.{Outcome, WriterState}
use Rattle.service.specs.Serving.{ServedValue}
use Rattle.program.specs.Journals.{JournalView, KeepsAll, KeepsState}
use Rattle.program.specs.Endings.{EndingValue, unserved}
use Rattle.program.specs.Performing.{Begun, HostView, IsServed, ServesNothing}

-- the conditions for a fault, where the bytes before are those of another log
pub fault-of-given : {F L : Type 0} (name : JournalName) (content : L → List ℕ) (given old new : L) (first : State) (cause : RecoverFault F) → content old ≡ content given
    → IsFaultOf name content old new first cause → IsFaultOf name content given new first cause
fault-of-given name content given old new first (recover_fault.Header header_fault.NotAJournal) same is = rw same at is
fault-of-given name content given old new first (recover_fault.Header header_fault.EarlierForm) same is = rw same at is
fault-of-given name content given old new first (recover_fault.Header header_fault.Damaged) same is = rw same at is
fault-of-given name content given old new first (recover_fault.Header header_fault.OtherMap) same is = rw same at is
fault-of-given name content given old new first (recover_fault.Damaged number) same is = rw same at is
fault-of-given name content given old new first (recover_fault.Refused number) same is = rw same at is
fault-of-given name content given old new first recover_fault.NoMemory same is = is ∙ same
fault-of-given name content given old new first (recover_fault.Failed failure) same is = is

-- what is told of a cut that is requested and isn't empty
pub told : (requested : Bool) (cut : ℕ) (P Q : Type 0) → requested ≡ true → cut ≢ 0 → P → MatchBool (requested && not (cut == 0)) P Q
told true zero P Q is some p = absurd (some refl)
told true (suc n) P Q is some p =
    let e : (suc n == 0) ≡ false = grind (arith, nat_tests) in
    subst (λ (b : Bool). MatchBool (true && not b) P Q) (sym e) p
told false cut P Q is some p = absurd (cc is)

-- an end that served nothing
pub nothing-served : {P L : Type 0} (ending : EndingValue P L) (outcome : Outcome) → ending ≡ unserved outcome → ServesNothing ending
nothing-served ending outcome is = is ∙ ap unserved (sym (ap (λ e. e.outcome) is))

-- of two cases by a number that isn't 0 the second
pub of-some : (n : ℕ) (P Q : Type 0) → (n ≡ 0 → ⊥) → Q → MatchBool (n == 0) P Q
of-some zero P Q some q = absurd (some refl)
of-some (suc n) P Q some q =
    let e : (suc n == 0) ≡ false = grind (arith, nat_tests) in
    subst (λ (b : Bool). MatchBool b P Q) (sym e) q

-- a keeper that keeps a journal's batches has them all
module _ {L : Type 0} (view : JournalView L) (recognises : Journal L → Type 0) where
  abbrev keeps : Option (Journal L) → List (List ℕ) → Type 0
  keeps = keeps_of (λ journal batches. view.reliable → recognises journal × IsSettled view.content view.may_leave journal batches)

  pub has-kept : (keeper : Option (Journal L)) (some batches : List (List ℕ)) → keeps keeper some → KeepsAll view keeper batches → keeps keeper batches
  has-kept None some batches ready all = tt
  has-kept (Some journal) some batches ready all = λ reliable. ((ready reliable).0, all reliable)

  pub kept-all : (keeper : Option (Journal L)) (batches : List (List ℕ)) → keeps keeper batches → KeepsAll view keeper batches
  kept-all None batches kept = tt
  kept-all (Some journal) batches kept = λ reliable. (kept reliable).1

-- a journal that is compacted and keeps batches leads to their state
module _ {L : Type 0} (view : JournalView L) (recognises : Type 0) where
  abbrev keeps-state : CompactedJournal L → List (List ℕ) → Type 0
  keeps-state compacted batches = view.reliable → recognises × JournalHas view.content view.may_leave compacted.journal batches

  pub has-state : (keeper : CompactedJournal L) (some batches : List (List ℕ)) → keeps-state keeper some → KeepsState view keeper batches → keeps-state keeper batches
  has-state keeper some batches ready all = λ reliable. ((ready reliable).0, all reliable)

  pub state-of : (keeper : CompactedJournal L) (batches : List (List ℕ)) → keeps-state keeper batches → KeepsState view keeper batches
  state-of keeper batches kept = λ reliable. (kept reliable).1

-- a keeper that keeps all of some batches, since another meaning of keeping them is enough, was served alike
pub served-alike : {P L K : Type 0} (host : HostView P L) (known : Keeps K) (keeps : K → List (List ℕ) → Type 0) (begun : Begun K) (served : ServedValue P K) (old new : WriterState)
    → ((batches : List (List ℕ)) → keeps begun.keeper batches → known.keeps begun.keeper batches)
    → ((batches : List (List ℕ)) → known.keeps served.last batches → keeps served.last batches)
    → IsServed host known begun served old new → IsServed host (record known { keeps = keeps }) begun served old new
served-alike host known keeps begun served old new before later is = record {
  began = is.began;
  listens = is.listens;
  listens_too = is.listens_too;
  took = is.took;
  kept = λ ends batches has. later (batches ++ served.accepted) (is.kept ends batches (before batches has));
  crash = λ reliable batches has. is.crash reliable batches (before batches has);
  failed = is.failed;
  answered = is.answered;
  announced = is.announced;
}

-- a settled journal that is compacted has its own batches, and as many empty ones before them as were left out of it
pub settled-has : {L : Type 0} (content : L → List ℕ) (may_leave : L → List ℕ → Type 0) (journal : Journal L) (own : List (List ℕ))
    → IsBounded journal.name.compaction → IsSettled content may_leave journal own → JournalHas content may_leave journal (empties (skipped_of journal.name.compaction) ++ own)
settled-has content may_leave journal own bounded settled = record {
  own = own;
  settled = settled;
  short = empties_short (skipped_of journal.name.compaction) own;
  bounded = bounded;
}
