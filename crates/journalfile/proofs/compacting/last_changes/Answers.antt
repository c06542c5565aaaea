use Rattle.std.proofs.Common.{◌≡◌, ℕ, ◌≤◌, List, [], ◌∷◌, ◌++◌, length, sym, subst, arith}
use Rattle.compaction.specs.Compacted.{commands_of}
use Rattle.compaction.specs.LastChanges.{AreLast}
use Rattle.journalfile.specs.Compacting.{HasRead}
use Rattle.journalfile.specs.Frames.{IsAhead}
use Rattle.journalfile.proofs.Batches.{all_read, commands_push, done_all}
use Rattle.journalfile.proofs.Pieces.{read_more}
use Rattle.journalfile.proofs.compacting.last_changes.Goals as goal

pub loop-reader-init : goal.loop-reader-init
loop-reader-init g c = record {
  fewer = omega (arith, c.in_ok-reader.ensures.number);
  ahead = c.in_ok-reader.ensures.ahead;
  so_far = λ reliable all is. ([], all, c.in_ok-reader.ensures.read reliable all is, c.new-changes.ensures);
  read = c.in_ok-reader.ensures.log;
}

pub loop-reader-preserved : goal.loop-reader-preserved
loop-reader-preserved g c =
    let file = g.L.Log.content c.args.log.now in
    let batch = c.in_ok-batch.batch.items in
    let reader = c.loop-reader.reader in
    let next = c.next.new.self in
    record {
      fewer = omega (arith, c.in_ok-batch.ensures.number, c.loop-reader-test.true);
      ahead = λ reliable. subst (λ (f : List ℕ). IsAhead f next.frames) (c.loop-reader.invariant.read reliable).same (c.in_ok-batch.ensures.ahead reliable);
      so_far = λ reliable all is.
          let same = (c.loop-reader.invariant.read reliable).same in
          let old = c.loop-reader.invariant.so_far reliable all is in
          let step = c.in_ok-batch.ensures.read reliable all old.0 old.1 (subst (λ (f : List ℕ). HasRead f all old.0 old.1 reader) (sym same) old.2) in
          let noted = rw c.as_slice.ensures.value at c.in_ok-note.ensures (commands_of old.0) old.3 in (
            old.0 ++ batch ∷ [],
            step.0,
            subst (λ (f : List ℕ). HasRead f all (old.0 ++ batch ∷ []) step.0 next) same step.2,
            subst (AreLast c.note.new.self) (sym (commands_push old.0 batch)) noted,
          );
      read = λ reliable. read_more g.L.Log.content g.L.Log.may_leave g.L.Log.moment g.L.Log.left_since c.args.log.now c.loop-reader.log c.next.new.log (c.loop-reader.invariant.read reliable) (c.in_ok-batch.ensures.log reliable);
    }

pub returns-clause-last : goal.returns-clause-last
returns-clause-last g c reliable all is counted =
    let file = g.L.Log.content c.args.log.now in
    let reader = c.loop-reader.reader in
    let old = c.loop-reader.invariant.so_far reliable all is in
    let most : length all ≤ reader.number = omega (arith, counted, c.loop-reader-test.false) in
    let done : all ≡ old.0 = done_all all old.0 old.1 old.2.parts (all_read file all old.0 old.1 reader old.2 most) in
    subst (λ (l : List (List ℕ)). AreLast c.loop-reader.changes (commands_of l)) (sym done) old.3
