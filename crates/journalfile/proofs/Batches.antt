-- The batches of a journal that were read, and what is left of them.
use Rattle.std.proofs.Common.{◌≡◌, ◌⊎◌, inl, inr, ℕ, ◌+◌, ◌<◌, ◌≤◌, List, [], ◌∷◌, ◌++◌, length, drop, refl, sym, ◌∙◌, ap, subst, arith, append_assoc, length-append}
use Rattle.std.proofs.lemmas.List.{append-nil}
use Rattle.std.proofs.lemmas.Grind.{flat_map-append}
use Rattle.std.proofs.lemmas.List.Concat.{flat_map-cons}
use Rattle.sha2.specs.Sha256.{sha256}
use Rattle.sha2.proofs.Facts256.{length-sha256}
use Rattle.batches.specs.declared.command.Command.{Command}
use Rattle.compaction.specs.Compacted.{commands_in, commands_of, compacted, compacted_batch, with_batch}
use Rattle.journal.specs.Name.{name_bytes}
use Rattle.journal.specs.declared.name.JournalName.{JournalName}
use Rattle.journalfile.specs.declared.writing.Journal.{Journal}
use Rattle.journal.specs.Record.{sequence_bytes, header, record_of, records, journal_of}
use Rattle.journal.proofs.Frames.{same_recorded}
use Rattle.journal.proofs.Growing.{records_push}
use Rattle.journalfile.specs.Compacting.{HasRead, HasLeft}
use Rattle.journalfile.specs.declared.reading.Reader.{Reader}

-- the record that some records begin with is that of their first batch
pub first_batch : (name : List ℕ) (number : ℕ) (left : List (List ℕ)) (batch bytes next : List ℕ) → bytes ≡ records sha256 name number left → bytes ≡ record_of sha256 name (sequence_bytes number) batch ++ next
    → (rest : List (List ℕ)) × (left ≡ batch ∷ rest) × (next ≡ records sha256 name (number + 1) rest)
first_batch name number [] batch bytes next is found = absurd (cc (sym is ∙ found))
first_batch name number (b ∷ rest) batch bytes next is found =
    let parts = same_recorded sha256 name length-sha256 (sequence_bytes number) (sequence_bytes number) batch b next (records sha256 name (number + 1) rest) refl (sym found ∙ is) in
    let same : b ≡ batch = sym parts.1 in
    (rest, ap (λ (l : List ℕ). l ∷ rest) same, parts.2)

-- one more batch was read
pub has_next : (file : List ℕ) (all done left : List (List ℕ)) (batch : List ℕ) (old new : Reader) → HasRead file all done left old
    → drop old.frames.position file ≡ record_of sha256 (name_bytes old.name) (sequence_bytes (old.number + 1)) batch ++ drop new.frames.position file
    → new.name ≡ old.name → new.number ≡ old.number + 1
    → (rest : List (List ℕ)) × (left ≡ batch ∷ rest) × HasRead file all (done ++ batch ∷ []) rest new
has_next file all done left batch old new has found named counted =
    let name = name_bytes old.name in
    let next = first_batch name (old.number + 1) left batch (drop old.frames.position file) (drop new.frames.position file) has.follows found in (
      next.0,
      next.1,
      record {
        parts = has.parts ∙ ap (λ (l : List (List ℕ)). done ++ l) next.1 ∙ sym (append_assoc done (batch ∷ []) next.0);
        counted = omega (arith, counted, has.counted, length-append done (batch ∷ []));
        follows = next.2 ∙ ap (λ n. records sha256 (name_bytes n) (old.number + 1 + 1) next.0) (sym named) ∙ ap (λ (n : ℕ). records sha256 (name_bytes new.name) (n + 1) next.0) (sym counted);
      },
    )

-- nothing else is read of a reader than this
pub same_read : (file : List ℕ) (all done left : List (List ℕ)) (old new : Reader) → HasRead file all done left old → new.frames ≡ old.frames → new.name ≡ old.name → new.number ≡ old.number → HasRead file all done left new
same_read file all done left old new has frames named counted = record {
  parts = has.parts;
  counted = counted ∙ has.counted;
  follows = ap (λ f. drop f.position file) frames ∙ has.follows ∙ ap (λ n. records sha256 (name_bytes n) (old.number + 1) left) (sym named) ∙ ap (λ (n : ℕ). records sha256 (name_bytes new.name) (n + 1) left) (sym counted);
}

-- all batches were read
pub all_read : (file : List ℕ) (all done left : List (List ℕ)) (reader : Reader) → HasRead file all done left reader → length all ≤ reader.number → left ≡ []
all_read file all done left reader has most = none left (omega (arith, most, has.counted, ap length has.parts, length-append done left))
  where
    none : (l : List (List ℕ)) → length l ≤ 0 → l ≡ []
    none [] short = refl
    none (b ∷ l) short = absurd (omega arith)

pub done_all : (all done left : List (List ℕ)) → all ≡ done ++ left → left ≡ [] → all ≡ done
done_all all done left parts none = parts ∙ ap (λ (l : List (List ℕ)). done ++ l) none ∙ append-nil done

commands_append : (a b : List (List ℕ)) → commands_of (a ++ b) ≡ commands_of a ++ commands_of b
commands_append a b = flat_map-append commands_in a b

pub commands_push : (done : List (List ℕ)) (batch : List ℕ) → commands_of (done ++ batch ∷ []) ≡ commands_of done ++ commands_in batch
commands_push done batch = commands_append done (batch ∷ []) ∙ ap (λ (l : List Command). commands_of done ++ l) (flat_map-cons commands_in batch [] ∙ append-nil (commands_in batch))

-- a batch of which something is left comes first
pub with_first : (batch : List ℕ) (batches : List (List ℕ)) → with_batch batch batches ≡ with_batch batch [] ++ batches
with_first [] batches = refl
with_first (b ∷ bs) batches = refl

-- what is left of one more batch
pub left_next : (file : List ℕ) (all written : List (List ℕ)) (old between new : Reader) (batch piece : List ℕ) (last : List Command → Type 0) → last (commands_of all)
    → ((earlier later : List Command) → last (earlier ++ (commands_in batch ++ later)) → old.commands ≡ length earlier → (piece ≡ compacted_batch batch later) × (new.commands ≡ length (earlier ++ commands_in batch)))
    → (has : HasLeft file all written old)
    → ((rest : List (List ℕ)) × (has.left ≡ batch ∷ rest) × HasRead file all (has.done ++ batch ∷ []) rest between)
    → new.frames ≡ between.frames → new.name ≡ between.name → new.number ≡ between.number
    → HasLeft file all (written ++ with_batch piece []) new
left_next file all written old between new batch piece last are added has (rest, next, read) frames named counted =
    let done = has.done in
    let parts : all ≡ done ++ batch ∷ rest = has.read.parts ∙ ap (λ (l : List (List ℕ)). done ++ l) next in
    let commands : commands_of all ≡ commands_of done ++ (commands_in batch ++ commands_of rest) = ap (λ (l : List (List ℕ)). commands_of l) parts ∙ commands_append done (batch ∷ rest)
    ∙ ap (λ (l : List Command). commands_of done ++ l) (flat_map-cons commands_in batch rest) in
    let found = added (commands_of done) (commands_of rest) (subst last commands are) has.commands in
    let step : compacted has.left ≡ with_batch piece [] ++ compacted rest =
    ap (λ (l : List (List ℕ)). compacted l) next ∙ ap (λ (l : List ℕ). with_batch l (compacted rest)) (sym found.0) ∙ with_first piece (compacted rest) in
    record {
      done = done ++ batch ∷ [];
      left = rest;
      read = same_read file all (done ++ batch ∷ []) rest between new read frames named counted;
      commands = found.1 ∙ ap (λ (l : List Command). length l) (sym (commands_push done batch));
      is = has.is ∙ ap (λ (l : List (List ℕ)). written ++ l) step ∙ sym (append_assoc written (with_batch piece []) (compacted rest));
    }

-- what is left of all
pub left_of_all : (file : List ℕ) (all written : List (List ℕ)) (reader : Reader) → HasLeft file all written reader → length all ≤ reader.number → compacted all ≡ written
left_of_all file all written reader has most =
    has.is ∙ ap (λ (l : List (List ℕ)). written ++ compacted l) (all_read file all has.done has.left reader has.read most) ∙ append-nil written

-- one more batch is left, or none
pub written_none : (written : List (List ℕ)) (piece : List ℕ) → length piece ≡ 0 → written ++ with_batch piece [] ≡ written
written_none written [] none = append-nil written
written_none written (b ∷ piece) none = absurd (omega arith)

pub written_one : (written : List (List ℕ)) (piece : List ℕ) → 0 < length piece → written ++ with_batch piece [] ≡ written ++ piece ∷ []
written_one written [] some = absurd (omega arith)
written_one written (b ∷ piece) some = refl

-- a journal with one more record
pub journal_push : (name : List ℕ) (batches : List (List ℕ)) (batch : List ℕ) (count : ℕ) → count ≡ length batches
    → journal_of sha256 name (batches ++ batch ∷ []) ≡ journal_of sha256 name batches ++ record_of sha256 name (sequence_bytes (count + 1)) batch
journal_push name batches batch count counts =
    ap (λ (l : List ℕ). header sha256 name ++ l) (records_push sha256 name 1 (count + 1) batches batch (omega (arith, counts)))
    ∙ sym (append_assoc (header sha256 name) (records sha256 name 1 batches) (record_of sha256 name (sequence_bytes (count + 1)) batch))

-- before the first batch
pub left_start : (file : List ℕ) (all : List (List ℕ)) (reader : Reader) → HasRead file all [] all reader → reader.commands ≡ 0 → HasLeft file all [] reader
left_start file all reader read none = record { done = []; left = all; read = read; commands = none; is = refl }

-- a count of batches that are left, before and after one that may be empty
abbrev pub Counts : List ℕ → ℕ → ℕ → Type 0
Counts piece old new = (length piece ≡ 0) × (new ≡ old) ⊎ (0 < length piece) × (new ≡ old + 1)

pub counts_few : (piece : List ℕ) (old new most : ℕ) → Counts piece old new → old ≤ most → new ≤ most + 1
counts_few piece old new most (inl (none, same)) few = omega (arith, same, few)
counts_few piece old new most (inr (some, more)) few = omega (arith, more, few)

pub counts_next : (written : List (List ℕ)) (piece : List ℕ) (old new : ℕ) → Counts piece old new → old ≡ length written → new ≡ length (written ++ with_batch piece [])
counts_next written piece old new (inl (none, same)) counted = same ∙ counted ∙ ap (λ (l : List (List ℕ)). length l) (sym (written_none written piece none))
counts_next written piece old new (inr (some, more)) counted =
    omega (arith, more, counted, ap (λ (l : List (List ℕ)). length l) (written_one written piece some), length-append written (piece ∷ []))

-- a journal before and after a batch that may be empty
abbrev pub Grows : {L : Type 0} → (L → List ℕ) → Journal L → Journal L → List ℕ → Type 0
Grows content old new piece =
    ((length piece ≡ 0) × (content new.log ≡ content old.log) × (new.count ≡ old.count))
    ⊎ ((0 < length piece) × (content new.log ≡ content old.log ++ record_of sha256 (name_bytes old.name) (sequence_bytes (old.count + 1)) piece) × (new.count ≡ old.count + 1))

pub grows_next : {L : Type 0} (content : L → List ℕ) (old new : Journal L) (name : JournalName) (written : List (List ℕ)) (piece : List ℕ) → Grows content old new piece → old.name ≡ name
    → content old.log ≡ journal_of sha256 (name_bytes name) written → old.count ≡ length written
    → (content new.log ≡ journal_of sha256 (name_bytes name) (written ++ with_batch piece [])) × (new.count ≡ length (written ++ with_batch piece []))
grows_next content old new name written piece (inl (none, same, count)) named is counted =
    let all = sym (written_none written piece none) in (
      same ∙ is ∙ ap (λ (l : List (List ℕ)). journal_of sha256 (name_bytes name) l) all,
      count ∙ counted ∙ ap (λ (l : List (List ℕ)). length l) all,
    )
grows_next content old new name written piece (inr (some, added, count)) named is counted =
    let all = sym (written_one written piece some) in
    let next = record_of sha256 (name_bytes name) (sequence_bytes (old.count + 1)) piece in (
      added ∙ ap (λ n. content old.log ++ record_of sha256 (name_bytes n) (sequence_bytes (old.count + 1)) piece) named ∙ ap (λ (l : List ℕ). l ++ next) is
          ∙ sym (journal_push (name_bytes name) written piece old.count counted) ∙ ap (λ (l : List (List ℕ)). journal_of sha256 (name_bytes name) l) all,
      omega (arith, count, counted, length-append written (piece ∷ []), ap (λ (l : List (List ℕ)). length l) all),
    )
