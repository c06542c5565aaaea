use Rattle.std.proofs.Common.{◌≡◌, inl, inr, ℕ, ◌+◌, ◌≤◌, List, [], ◌++◌, length, sym, ◌∙◌, ap, subst, arith, rules}
use Rattle.std.proofs.lemmas.List.{append-nil}
use Rattle.sha2.specs.Sha256.{sha256}
use Rattle.compaction.specs.Compacted.{compacted, with_batch}
use Rattle.journal.specs.Name.{name_bytes}
use Rattle.journal.specs.Record.{header, journal_of, record_of, sequence_bytes}
use Rattle.journalfile.specs.Compacting.{HasLeft}
use Rattle.journalfile.specs.Frames.{IsAhead}
use Rattle.journalfile.specs.Settled.{NotesLength}
use Rattle.journalfile.specs.declared.writing.Journal.{Journal}
use Rattle.journalfile.proofs.Batches.{Grows, grows_next, left_of_all, left_start}
use Rattle.journalfile.proofs.Pieces.{read_more}
use Rattle.journalfile.proofs.compacting.write_left.Goals as goal
use Rattle.journalfile.proofs.compacting.write_left.Goals.{then-not-is_empty+in_ok-add_batch, else-not-is_empty}

pub loop-reader-init : goal.loop-reader-init
loop-reader-init g c =
    let front = header sha256 (name_bytes c.args.successor.now.name) in
    record {
      named = c.in_ok-add_header.ensures.name;
      fewer = omega (arith, c.in_ok-reader.ensures.number);
      ahead = c.in_ok-reader.ensures.ahead;
      so_far = λ reliable empty all is last. (
        [],
        left_start (g.L.Log.content c.args.log.now) all c.in_ok-reader.reader (c.in_ok-reader.ensures.read reliable all is) c.in_ok-reader.ensures.commands,
        c.in_ok-add_header.ensures.added reliable ∙ ap (λ (l : List ℕ). l ++ front) empty ∙ sym (append-nil front),
        c.in_ok-add_header.ensures.count ∙ c.requires.empty,
      );
      noted = c.in_ok-add_header.ensures.noted;
      read = c.in_ok-reader.ensures.log;
    }

pub loop-reader-preserved : goal.loop-reader-preserved
loop-reader-preserved g c =
    let file = g.L.Log.content c.args.log.now in
    let piece = c.in_ok-left.left.items in
    let reader = c.loop-reader.reader in
    let next = c.next_left.new.self in
    let old_log = c.loop-reader.successor in
    let new_log = c.if-not-is_empty.successor in
    record {
      named = elim c.if-not-is_empty.branch [
        | then-not-is_empty+in_ok-add_batch w ↦ ap (λ j. j.name) w.successor-is ∙ w.in_ok-add_batch.ensures.name ∙ c.loop-reader.invariant.named
        | else-not-is_empty w ↦ ap (λ j. j.name) w.successor-is ∙ c.loop-reader.invariant.named
      ];
      fewer = omega (arith, c.in_ok-left.ensures.number, c.loop-reader-test.true);
      ahead = λ reliable. subst (λ (f : List ℕ). IsAhead f next.frames) (c.loop-reader.invariant.read reliable).same (c.in_ok-left.ensures.ahead reliable);
      so_far = λ reliable empty all is last.
          let same = (c.loop-reader.invariant.read reliable).same in
          let old = c.loop-reader.invariant.so_far reliable empty all is last in
          let step = c.in_ok-left.ensures.left reliable all old.0 last (subst (λ (f : List ℕ). HasLeft f all old.0 reader) (sym same) old.1) in
          let change : Grows g.L.Log.content old_log new_log piece = elim c.if-not-is_empty.branch [
            | then-not-is_empty+in_ok-add_batch w ↦ inr (
              search rules,
              ap (λ j. g.L.Log.content j.log) w.successor-is ∙ w.in_ok-add_batch.ensures.added reliable
                  ∙ ap (λ (l : List ℕ). g.L.Log.content old_log.log ++ record_of sha256 (name_bytes old_log.name) (sequence_bytes (old_log.count + 1)) l) w.as_slice.ensures.value,
              ap (λ j. j.count) w.successor-is ∙ w.in_ok-add_batch.ensures.count,
            )
            | else-not-is_empty w ↦ inl (search rules, ap (λ j. g.L.Log.content j.log) w.successor-is, ap (λ j. j.count) w.successor-is)
          ] in
          let grown = grows_next g.L.Log.content old_log new_log c.args.successor.now.name old.0 piece change c.loop-reader.invariant.named old.2 old.3 in (
            old.0 ++ with_batch piece [],
            subst (λ (f : List ℕ). HasLeft f all (old.0 ++ with_batch piece []) next) same step,
            grown.0,
            grown.1,
          );
      noted = λ reliable was.
          let before = c.loop-reader.invariant.noted reliable was in
          elim c.if-not-is_empty.branch [
            | then-not-is_empty+in_ok-add_batch w ↦ subst (λ (j : Journal g.row.L.Denot). NotesLength g.L.Log.content j) (sym w.successor-is) (w.in_ok-add_batch.ensures.noted reliable before)
            | else-not-is_empty w ↦ subst (λ (j : Journal g.row.L.Denot). NotesLength g.L.Log.content j) (sym w.successor-is) before
          ];
      read = λ reliable. read_more g.L.Log.content g.L.Log.may_leave g.L.Log.moment g.L.Log.left_since c.args.log.now c.loop-reader.log c.next_left.new.log (c.loop-reader.invariant.read reliable) (c.in_ok-left.ensures.log reliable);
    }

pub returns-clause-written : goal.returns-clause-written
returns-clause-written g c reliable empty all is counted last =
    let old = c.loop-reader.invariant.so_far reliable empty all is last in
    let most : length all ≤ c.loop-reader.reader.number = omega (arith, counted, c.loop-reader-test.false) in
    let left : compacted all ≡ old.0 = left_of_all (g.L.Log.content c.args.log.now) all old.0 c.loop-reader.reader old.1 most in (
      old.2 ∙ ap (λ (l : List (List ℕ)). journal_of sha256 (name_bytes c.args.successor.now.name) l) (sym left),
      old.3 ∙ ap (λ (l : List (List ℕ)). length l) (sym left),
    )
