use Rattle.std.proofs.Common.{◌≡◌, ◌∙◌, ◌+◌, ◌-◌, ◌^◌, ◌&&◌, ℕ, cond, ap, sym, rules, arith}
use Rattle.std.proofs.lemmas.Int.{ints}
use Rattle.std.proofs.lemmas.Result.{on_ok_weaker}
use Rattle.std.specs.List.{count_by}
use Rattle.std.specs.Prelude.{int_le}
use lib.IntN.{pos}
use Rattle.clip.specs.EdgeClass.{has_row}
use Rattle.scanfill.specs.Column.{column_of}
use Rattle.scanfill.specs.Flips.{FlipsValue, flips_by}
use Rattle.scanfill.specs.Walk.{WalkValue}
use Rattle.geom.specs.Edge.{run}
use Rattle.scanfill.proofs.Columns.{upright-column}
use Rattle.scanfill.proofs.FlipCounts.{rows-none, flips-more}
use Rattle.scanfill.proofs.Words.{word}
use Rattle.scanfill.proofs.flips.Flips.add_walked.Goals as goal

pub returns-then-rows-clause-counts : goal.returns-then-rows-clause-counts
returns-then-rows-clause-counts c = on_ok_weaker c.add_flip.result
    (λ counts. λ i j h.
    let e = c.args.edge in
    let from = c.args.rows.from in
    let n = count_by (flips_by i j) c.args.self.now.flips in
    let column = word (2 ^ 44) c.column.result (omega arith) c.column.ensures.range ∙ c.column.ensures.value in
    flips-more from from j n n (count_by (flips_by i j) c.add_flip.new.self.flips) (int_le (column_of e from) (pos i)) (int_le (column_of e j) (pos i)) (omega arith)
    (λ same. ap (λ k. int_le (column_of e k) (pos i)) (sym same)) (rows-none from j n (int_le (column_of e j) (pos i))) (rw column at (counts i j h))
    ∙ ap (λ k. n + cond {A = ℕ} (has_row (record { from = from; to = k }) j && int_le (column_of e j) (pos i)) 1 0) c.if-rows.true)
    c.add_flip.ensures.counts

pub returns-then-run-eq0-clause-counts : goal.returns-then-run-eq0-clause-counts
returns-then-run-eq0-clause-counts c = on_ok_weaker c.add_column.result
    (λ counts. λ i j h.
    let e = c.args.edge in
    let from = c.args.rows.from in
    let column = word (2 ^ 44) c.column-then-run-eq0.result (omega arith) c.column-then-run-eq0.ensures.range ∙ c.column-then-run-eq0.ensures.value in
    let upright : run e ≡ pos 0 = omega (arith, ints, c.run.ensures.value, c.run.ensures.range, c.if-run-eq0.true) in
    let same : column_of e from ≡ column_of e j = upright-column e from j upright in
    rw (column, same) at (counts i j h))
    c.add_column.ensures.counts

pub loop-row-preserved : goal.loop-row-preserved
loop-row-preserved c =
    let l = c.loop-row in
    let e = c.args.edge in
    let wide : l.self.width ≡ c.args.self.now.width = ap (λ (t : FlipsValue). t.width) l.invariant.sides in
    let at : column_of l.walk.edge l.walk.row ≡ column_of e l.row = ap (λ (w : WalkValue). column_of w.edge w.row) l.invariant.walk in
    let column = word (2 ^ 44) c.column-in-loop-row.result (omega arith) c.column-in-loop-row.ensures.range ∙ (c.column-in-loop-row.ensures.value ∙ at) in
    record {
      sides = search (rules, c.in_ok-add_flip.ensures.sides, l.invariant.sides);
      walk = c.next_row.ensures ∙ ap (λ (w : WalkValue). record w { row = w.row + 1 }) l.invariant.walk;
      counts = λ i j h.
          flips-more c.args.rows.from l.row j (count_by (flips_by i j) c.args.self.now.flips) (count_by (flips_by i j) l.self.flips) (count_by (flips_by i j) c.add_flip-in-loop-row.new.self.flips)
          (int_le (column_of e l.row) (pos i)) (int_le (column_of e j) (pos i)) l.auto.row (λ same. ap (λ k. int_le (column_of e k) (pos i)) (sym same)) (l.invariant.counts i j h)
          (rw column at (c.in_ok-add_flip.ensures.counts i j (omega (arith, wide))));
    }

pub returns-clause-counts : goal.returns-clause-counts
returns-clause-counts c = on_ok_weaker c.add_flip-2.result
    (λ counts. λ i j h.
    let l = c.loop-row in
    let e = c.args.edge in
    let n = count_by (flips_by i j) c.args.self.now.flips in
    let last : l.row ≡ c.args.rows.to - 1 = omega (arith, l.auto.row-end, c.loop-row-test.false, c.requires.some) in
    let end : c.args.rows.to - 1 + 1 ≡ c.args.rows.to = omega (arith, c.requires.some) in
    let wide : l.self.width ≡ c.args.self.now.width = ap (λ (t : FlipsValue). t.width) l.invariant.sides in
    let at : column_of l.walk.edge l.walk.row ≡ column_of e (c.args.rows.to - 1) = ap (λ (w : WalkValue). column_of w.edge w.row) l.invariant.walk ∙ ap (λ k. column_of e k) last in
    let column = word (2 ^ 44) c.column-2.result (omega arith) c.column-2.ensures.range ∙ (c.column-2.ensures.value ∙ at) in
    flips-more c.args.rows.from (c.args.rows.to - 1) j n (count_by (flips_by i j) l.self.flips) (count_by (flips_by i j) c.add_flip-2.new.self.flips)
    (int_le (column_of e (c.args.rows.to - 1)) (pos i)) (int_le (column_of e j) (pos i)) (omega (arith, c.requires.some)) (λ same. ap (λ k. int_le (column_of e k) (pos i)) (sym same))
    (rw last at (l.invariant.counts i j h)) (rw column at (counts i j (omega (arith, wide))))
    ∙ ap (λ k. n + cond {A = ℕ} (has_row (record { from = c.args.rows.from; to = k }) j && int_le (column_of e j) (pos i)) 1 0) end)
    c.add_flip-2.ensures.counts
