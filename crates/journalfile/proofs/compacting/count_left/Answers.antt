use Rattle.std.proofs.Common.{inl, inr, ℕ, ◌≤◌, List, [], ◌++◌, length, refl, sym, ◌∙◌, ap, subst, arith, rules}
use Rattle.compaction.specs.Compacted.{with_batch}
use Rattle.journalfile.specs.Compacting.{HasLeft}
use Rattle.journalfile.specs.Frames.{IsAhead}
use Rattle.journalfile.proofs.Batches.{Counts, counts_few, counts_next, left_of_all, left_start}
use Rattle.journalfile.proofs.Pieces.{read_more}
use Rattle.journalfile.proofs.compacting.count_left.Goals as goal
use Rattle.journalfile.proofs.compacting.count_left.Goals.{then-not-is_empty, else-not-is_empty}

pub loop-reader-init : goal.loop-reader-init
loop-reader-init g c = record {
  few = omega (arith, c.in_ok-reader.ensures.number);
  fewer = omega (arith, c.in_ok-reader.ensures.number);
  ahead = c.in_ok-reader.ensures.ahead;
  so_far = λ reliable all is last.
      ([], left_start (g.L.Log.content c.args.log.now) all c.in_ok-reader.reader (c.in_ok-reader.ensures.read reliable all is) c.in_ok-reader.ensures.commands, refl);
  read = c.in_ok-reader.ensures.log;
}

pub loop-reader-preserved : goal.loop-reader-preserved
loop-reader-preserved g c =
    let file = g.L.Log.content c.args.log.now in
    let piece = c.in_ok-left.left.items in
    let reader = c.loop-reader.reader in
    let next = c.next_left.new.self in
    let change : Counts piece c.loop-reader.count c.if-not-is_empty.count = elim c.if-not-is_empty.branch [
      | then-not-is_empty w ↦ inr (search rules, w.count-is)
      | else-not-is_empty w ↦ inl (search rules, w.count-is)
    ] in
    record {
      few = omega (arith, c.in_ok-left.ensures.number, counts_few piece c.loop-reader.count c.if-not-is_empty.count reader.number change c.loop-reader.invariant.few);
      fewer = omega (arith, c.in_ok-left.ensures.number, c.loop-reader-test.true);
      ahead = λ reliable. subst (λ (f : List ℕ). IsAhead f next.frames) (c.loop-reader.invariant.read reliable).same (c.in_ok-left.ensures.ahead reliable);
      so_far = λ reliable all is last.
          let same = (c.loop-reader.invariant.read reliable).same in
          let old = c.loop-reader.invariant.so_far reliable all is last in
          let step = c.in_ok-left.ensures.left reliable all old.0 last (subst (λ (f : List ℕ). HasLeft f all old.0 reader) (sym same) old.1) in (
            old.0 ++ with_batch piece [],
            subst (λ (f : List ℕ). HasLeft f all (old.0 ++ with_batch piece []) next) same step,
            counts_next old.0 piece c.loop-reader.count c.if-not-is_empty.count change old.2,
          );
      read = λ reliable. read_more g.L.Log.content g.L.Log.may_leave g.L.Log.moment g.L.Log.left_since c.args.log.now c.loop-reader.log c.next_left.new.log (c.loop-reader.invariant.read reliable) (c.in_ok-left.ensures.log reliable);
    }

pub returns-clause-counted : goal.returns-clause-counted
returns-clause-counted g c reliable all is counted last =
    let old = c.loop-reader.invariant.so_far reliable all is last in
    let most : length all ≤ c.loop-reader.reader.number = omega (arith, counted, c.loop-reader-test.false) in
    old.2 ∙ ap (λ (l : List (List ℕ)). length l) (sym (left_of_all (g.L.Log.content c.args.log.now) all old.0 c.loop-reader.reader old.1 most))
