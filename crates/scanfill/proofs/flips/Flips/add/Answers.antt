use Rattle.std.proofs.Common.{◌≡◌, ◌∙◌, ◌+◌, ◌&&◌, ℕ, Bool, true, cond, ap, sym, arith}
use Rattle.std.proofs.lemmas.Result.{on_ok_weaker}
use Rattle.std.proofs.lemmas.Int.{ints}
use Rattle.std.specs.List.{count_by}
use Rattle.std.specs.Prelude.{int_le}
use lib.IntN.{pos}
use Rattle.clip.specs.EdgeClass.{has_row}
use Rattle.geom.proofs.Products.{is_le}
use Rattle.scanfill.specs.Flips.{FlipsValue, flips_by}
use Rattle.scanfill.proofs.FlipCounts.{and_right_true}
use Rattle.scanfill.proofs.Shares.{drop-share, left-share, walk-share}
use Rattle.scanfill.proofs.Sweeping.{rows-crossed, rows-within}
use Rattle.scanfill.proofs.flips.Flips.add.Goals as goal

pub add_column-requires-clause-within : goal.add_column-requires-clause-within
add_column-requires-clause-within c =
    let high = ap (λ (t : FlipsValue). t.height) c.self.view_is in
    omega (arith, high, rows-within c.args.edge c.self.inside.height c.in-LeftOfView.rows c.in-LeftOfView.ensures.cases.0)

pub add_walked-requires-clause-within : goal.add_walked-requires-clause-within
add_walked-requires-clause-within c =
    let high = ap (λ (t : FlipsValue). t.height) c.self.view_is in
    omega (arith, high, rows-within c.args.edge c.self.inside.height c.in-Walk.rows c.in-Walk.ensures.cases.0)

pub add_walked-requires-clause-crosses : goal.add_walked-requires-clause-crosses
add_walked-requires-clause-crosses c = rows-crossed c.args.edge c.self.inside.height c.in-Walk.rows c.in-Walk.ensures.cases.0

pub returns-in-Drop-clause-counts : goal.returns-in-Drop-clause-counts
returns-in-Drop-clause-counts c = λ i j column row.
    let wide = ap (λ (t : FlipsValue). t.width) c.self.view_is in
    let high = ap (λ (t : FlipsValue). t.height) c.self.view_is in
    rw (drop-share c.args.edge c.self.inside.width c.self.inside.height i j c.in-Drop.ensures.cases (omega (arith, wide)) (omega (arith, high))) (omega arith)

pub returns-in-LeftOfView-clause-counts : goal.returns-in-LeftOfView-clause-counts
returns-in-LeftOfView-clause-counts c = on_ok_weaker c.add_column.result
    (λ counts. λ i j column row.
    let high = ap (λ (t : FlipsValue). t.height) c.self.view_is in
    let is = c.in-LeftOfView.ensures.cases in
    let right : int_le (pos 0) (pos i) ≡ true = is_le (pos 0) (pos i) (omega (arith, ints)) in
    counts i j column
    ∙ (ap (λ (b : Bool). count_by (flips_by i j) c.args.self.now.flips + cond {A = ℕ} b 1 0) (and_right_true (has_row c.in-LeftOfView.rows j) (int_le (pos 0) (pos i)) right)
    ∙ ap (λ (b : Bool). count_by (flips_by i j) c.args.self.now.flips + cond {A = ℕ} b 1 0) (sym (left-share c.args.edge c.self.inside.height i j c.in-LeftOfView.rows is.0 is.2 (omega (arith, high))))))
    c.add_column.ensures.counts

pub returns-in-Walk-clause-counts : goal.returns-in-Walk-clause-counts
returns-in-Walk-clause-counts c = on_ok_weaker c.add_walked.result
    (λ counts. λ i j column row.
    let high = ap (λ (t : FlipsValue). t.height) c.self.view_is in
    let is = c.in-Walk.ensures.cases in
    counts i j column
    ∙ ap (λ (b : Bool). count_by (flips_by i j) c.args.self.now.flips + cond {A = ℕ} b 1 0) (sym (walk-share c.args.edge c.self.inside.height i j c.in-Walk.rows is.0 (omega (arith, high)))))
    c.add_walked.ensures.counts
