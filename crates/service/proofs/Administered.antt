-- The bytes that an administrator's client got through a sink in front of its own.
use Rattle.std.proofs.Common.{◌≡◌, inl, inr, ℕ, ◌-◌, List, Option, None, Result, Ok, Err, refl}
use Rattle.std.specs.Prelude.{IfSome, OnOk, IsErr, IsErrOf, MatchResult}
use Rattle.administration.specs.Keeping.{HasSent, IsCutShort, IsFailed, IsReported}
use Rattle.administration.specs.Serving.{HasAdministered, HasDoneAll, ReportedCommands}
use Rattle.administration.specs.declared.keeping.AdministerFault.{AdministerFault}
use Rattle.administration.specs.declared.keeping.AdministerFault.TheVariants.{PutFailed, KeepFailed}
use Rattle.batches.specs.Batch.{State}
use Rattle.console.specs.Console.{Outcome}
use Rattle.console.specs.declared.failure.Failure.TheVariants.{JournalFailed}
use Rattle.keepers.specs.declared.cause.LogCause.{LogCause}
use Rattle.mapshare.specs.Admin.{Batches}
use Rattle.mapshare.specs.declared.admin.KeepFailed as keep
use Rattle.streams.specs.Sent.{IsSent, IsCutSomewhere}
use Rattle.streams.specs.Sides.{Attended, SidesView}
use Rattle.service.specs.Administering.{Administers, cause_of, fault_of}

module _ {A B : Type 0} (within : A → B) (held : B → Option (List ℕ)) (taken : B → ℕ) where
  -- the text that was sent to the outer sink was sent to the inner one
  sent-within : (old : A) (text : List ℕ) (new : A) → IsSent (λ s. held (within s)) (λ s. taken (within s)) old text new → IsSent held taken (within old) text (within new)
  sent-within old text new sent = record { bytes = sent.bytes; count = sent.count }

  cut-within : (old : A) (text : List ℕ) (new : A) → IsCutSomewhere (λ s. held (within s)) (λ s. taken (within s)) old text new → IsCutSomewhere held taken (within old) text (within new)
  cut-within old text new (written, cut) = (written, record { short = cut.short; bytes = cut.bytes; count = cut.count })

  reported-within : (old : A) (text : List ℕ) (new : A) → IsReported (λ s. held (within s)) (λ s. taken (within s)) old text new → IsReported held taken (within old) text (within new)
  reported-within old text new (inl sent) = inl (sent-within old text new sent)
  reported-within old text new (inr cut) = inr (cut-within old text new cut)

module _ {R A W : Type 0} (within : A → W) (sides : SidesView R W) (opening : State) where
  -- what is known of the reader and of the outer sink
  abbrev pub outer : SidesView R A
  outer = record { left = sides.left; failed = sides.failed; held = λ s. sides.held (within s); taken = λ s. sides.taken (within s) }

  -- a client with the inner sink
  abbrev pub inside : Attended R A Batches → Attended R W Batches
  inside client = record { reader = client.reader; writer = within client.writer; asked = client.asked }

  done-within : (old new : Attended R A Batches) (reported : ReportedCommands) → HasDoneAll opening outer old new reported → HasDoneAll opening sides (inside old) (inside new) reported
  done-within old new reported all = record { bytes = all.bytes; came = all.came; done = all.done }

  earlier-within : (old new : Attended R A Batches) (bytes : List ℕ) → HasSent opening outer old new bytes → HasSent opening sides (inside old) (inside new) bytes
  earlier-within old new bytes sent = record {
    commands = sent.commands;
    lines = sent.lines;
    done = done-within old new _ sent.done;
    well_formed = sent.well_formed;
    sent = sent-within within sides.held sides.taken old.writer sent.lines new.writer sent.sent;
  }

  whole-within : (old new : Attended R A Batches) → HasAdministered opening outer old new → HasAdministered opening sides (inside old) (inside new)
  whole-within old new all = record {
    reported = all.reported;
    done = done-within old new all.reported all.done;
    sent = sent-within within sides.held sides.taken old.writer all.reported.lines new.writer all.sent;
    ended = all.ended;
  }

  stopped-within : (old new : Attended R A Batches) → IsCutShort opening outer old new → IsCutShort opening sides (inside old) (inside new)
  stopped-within old new short = record {
    bytes = short.bytes;
    between = short.between;
    middle = within short.middle;
    earlier = earlier-within old _ short.bytes short.earlier;
    commands = short.commands;
    lines = short.lines;
    rest = short.rest;
    done = short.done;
    few = short.few;
    cut = cut-within within sides.held sides.taken short.middle short.lines new.writer short.cut;
  }

  failed-within : (old new : Attended R A Batches) → IsFailed opening outer old new → IsFailed opening sides (inside old) (inside new)
  failed-within old new is = record {
    bytes = is.bytes;
    between = is.between;
    middle = within is.middle;
    earlier = earlier-within old _ is.bytes is.earlier;
    batches = is.batches;
    failed = is.failed;
    results = is.results;
    rest = is.rest;
    begins = is.begins;
    few = is.few;
    done = is.done;
    fails = is.fails;
    reported = reported-within within sides.held sides.taken is.middle _ new.writer is.reported;
  }

  -- so an administrator was served, whatever the outcome
  pub administered : (served : Result (Unit {0}) AdministerFault) (old new : Attended R A Batches) (written : ℕ)
      → OnOk served (HasAdministered opening outer old new)
      → (IsErrOf served PutFailed → IsCutShort opening outer old new)
      → ((cause : LogCause) → IsErrOf served (KeepFailed cause) → IsFailed opening outer old new)
      → written ≡ outer.taken new.writer - outer.taken old.writer
      → Administers opening sides (cause_of served) (fault_of served written) (inside old) (inside new)
  administered (Ok done) old new written all stopped ended count = whole-within old new all
  administered (Err PutFailed) old new written ok stopped ended count = (stopped-within old new (stopped refl), count)
  administered (Err (KeepFailed cause)) old new written ok stopped ended count = failed-within old new (ended cause refl)

-- the accepted batches are kept, unless the keeper failed
pub kept-of : (served : Result (Unit {0}) AdministerFault) (P : Type 0) → MatchResult served (λ _. P) (λ why. why ≡ PutFailed → P) → cause_of served ≡ None → P
kept-of (Ok done) P is e = is
kept-of (Err PutFailed) P is e = is refl
kept-of (Err (KeepFailed cause)) P is e = absurd (cc e)

-- the batches that were accepted are kept, unless the service ended with the failure of their keeper
pub unless-failed : (kept : Result (Unit {0}) keep.KeepFailed) (outcome : Outcome) (P : Type 0) → (IsErr kept → outcome ≡ Err JournalFailed) → OnOk kept P → (outcome ≡ Err JournalFailed → ⊥) → P
unless-failed (Ok done) outcome P fails is other = is
unless-failed (Err why) outcome P fails is other = absurd (other (fails refl))

-- why the keeper failed, if it did
pub cause-of : (served : Result (Unit {0}) AdministerFault) (P : LogCause → Type 0) → ((cause : LogCause) → IsErrOf served (KeepFailed cause) → P cause) → IfSome (cause_of served) P
cause-of (Ok done) P is = tt
cause-of (Err PutFailed) P is = tt
cause-of (Err (KeepFailed cause)) P is = is cause refl
