use Rattle.std.proofs.Common.{◌≡◌, ℕ, ◌+◌, ◌≤◌, List, ◌++◌, length, sym, ◌∙◌, ap, subst, arith, length-append}
use Rattle.sha2.specs.Sha256.{sha256}
use Rattle.journal.specs.Name.{name_bytes, written_of}
use Rattle.journal.specs.Texts.{texts_of}
use Rattle.journal.specs.Record.{records, journal_of}
use Rattle.journal.specs.declared.name.JournalName.{JournalName}
use Rattle.journal.proofs.Growing.{journal_append, length-texts}
use Rattle.journalfile.specs.Log.{Torn}
use Rattle.journalfile.specs.Steps.{MayAppend}
use Rattle.journal.specs.Reading.{StandsFor, StandsForFirst}
use Rattle.journal.proofs.Standing.{stands, stands_first}
use Rattle.journalfile.specs.Settled.{GarblesNoRecord}
use Rattle.keepers.proofs.Moments.{started, weaker}
use Rattle.journalfile.proofs.Lengths.{noted_more}
use Rattle.journalfile.proofs.Standing.{add_crash}
use Rattle.journalfile.proofs.writing.Journal.put.Goals as goal

pub returns-in_default-clause-any_moment : goal.returns-in_default-clause-any_moment
returns-in_default-clause-any_moment g c reliable kept settled =
    let log = c.args.self.now.log in
    let name = c.args.self.now.name in
    let more = texts_of c.args.batches.now in
    started g.L.Log.moment g.L.Log.left_since log (StandsForFirst name kept more)
    (λ f left. stands_first name kept more f (subst (λ (l : List ℕ). StandsFor name l kept) (sym (settled.durable f (g.met.L.Log.only_now reliable log f left) ∙ settled.file)) (stands name kept settled.enough)))

-- the bytes that a crash may leave of the added records stand for the batches, and the first of the new ones
outcome : (name : JournalName) (garbled may_leave : List ℕ → Type 0) (file bytes : List ℕ) (kept more : List (List ℕ)) (count : ℕ)
    → GarblesNoRecord garbled (name_bytes name) → ((f : List ℕ) → may_leave f → f ≡ file) → file ≡ journal_of sha256 (name_bytes name) kept
    → bytes ≡ records sha256 (name_bytes name) (count + 1) more → count ≡ length kept → written_of name.compaction ≤ length kept
    → (f : List ℕ) → MayAppend garbled bytes may_leave f → StandsForFirst name kept more f
outcome name garbled may_leave file bytes kept more count shown only is spelled counts enough f (d, left, torn) =
    add_crash name garbled shown kept more f enough
    (subst (λ (n : ℕ). Torn garbled (records sha256 (name_bytes name) (n + 1) more) (journal_of sha256 (name_bytes name) kept) f) counts
    (subst (λ (l : List ℕ). Torn garbled l (journal_of sha256 (name_bytes name) kept) f) spelled
    (subst (λ (l : List ℕ). Torn garbled bytes l f) (only d left ∙ is) torn)))

pub returns-in-Err-clause-any_moment : goal.returns-in-Err-clause-any_moment
returns-in-Err-clause-any_moment g c reliable kept settled =
    let log = c.args.self.now.log in
    weaker g.L.Log.moment g.L.Log.left_since log c.append_synced.new.log (MayAppend g.L.Log.garbled c.as_slice.result.now (g.L.Log.may_leave log)) (StandsForFirst c.args.self.now.name kept (texts_of c.args.batches.now)) (c.in-Err.ensures.any_moment reliable)
    (outcome c.args.self.now.name g.L.Log.garbled (g.L.Log.may_leave log) (g.L.Log.content log) c.as_slice.result.now kept (texts_of c.args.batches.now) c.args.self.now.count
    (c.requires.recognised reliable) settled.durable settled.file (c.as_slice.ensures.value ∙ c.in-Ok.ensures) settled.count settled.enough)

pub returns-clause-any_moment : goal.returns-clause-any_moment
returns-clause-any_moment g c reliable kept settled =
    let log = c.args.self.now.log in
    weaker g.L.Log.moment g.L.Log.left_since log c.append_synced.new.log (MayAppend g.L.Log.garbled c.as_slice.result.now (g.L.Log.may_leave log)) (StandsForFirst c.args.self.now.name kept (texts_of c.args.batches.now)) (c.in_default-append_synced.ensures.any_moment reliable)
    (outcome c.args.self.now.name g.L.Log.garbled (g.L.Log.may_leave log) (g.L.Log.content log) c.as_slice.result.now kept (texts_of c.args.batches.now) c.args.self.now.count
    (c.requires.recognised reliable) settled.durable settled.file (c.as_slice.ensures.value ∙ c.in-Ok.ensures) settled.count settled.enough)

-- the journal with more batches
grown : (name old new bytes : List ℕ) (kept more : List (List ℕ)) (count : ℕ) → new ≡ old ++ bytes → old ≡ journal_of sha256 name kept → bytes ≡ records sha256 name (count + 1) more
    → count ≡ length kept → new ≡ journal_of sha256 name (kept ++ more)
grown name old new bytes kept more count added is spelled counts =
    added ∙ ap (λ (l : List ℕ). l ++ bytes) is ∙ ap (λ (l : List ℕ). journal_of sha256 name kept ++ l) spelled
    ∙ sym (journal_append sha256 name (count + 1) kept more (omega (arith, counts)))

pub returns-clause-kept : goal.returns-clause-kept
returns-clause-kept g c reliable kept settled =
    let name = (name_bytes c.args.self.now.name) in
    let count = c.args.self.now.count in
    let more = texts_of c.args.batches.now in
    record {
      file = grown name (g.L.Log.content c.args.self.now.log) (g.L.Log.content c.append_synced.new.log) c.as_slice.result.now kept more count (c.in_default-append_synced.ensures.added reliable) settled.file (c.as_slice.ensures.value ∙ c.in-Ok.ensures) settled.count;
      count = omega (arith, settled.count, length-append kept more, length-texts c.args.batches.now);
      enough = omega (arith, settled.enough, length-append kept more);
      durable = c.in_default-append_synced.ensures.durable reliable;
      noted =
          let more = noted_more (g.L.Log.content c.args.self.now.log) (g.L.Log.content c.append_synced.new.log) c.as_slice.result.now c.args.self.now.length settled.noted (c.in_default-append_synced.ensures.added reliable) in
          omega (arith, c.saturating_add-self.ensures, c.len.ensures, ap (λ (l : List ℕ). length l) c.as_slice.ensures.value, more);
    }
