use Rattle.std.proofs.Common.{◌≡◌, ◌∙◌, ◌+◌, ◌&&◌, ℕ, Bool, cond, ap, sym, arith}
use Rattle.std.proofs.lemmas.List.Sums.{sum_by_push}
use Rattle.std.specs.List.{count_by}
use Rattle.std.specs.Prelude.{int_le}
use lib.IntN.{pos}
use Rattle.clip.specs.EdgeClass.{has_row}
use Rattle.scanfill.specs.Column.{column_of}
use Rattle.scanfill.specs.Crossing.{reaches}
use Rattle.scanfill.specs.declared.crossing.Crossing.{Crossing}
use Rattle.scanfill.specs.declared.crossing.Crossing.TheVariants as crossing
use Rattle.scanfill.proofs.Shares.{drop-share, left-share, walk-share}
use Rattle.scanfill.proofs.Sweeping.{rows-within}
use Rattle.scanfill.proofs.sweep.push_crossing.Goals as goal

pub start-walk-requires-clause-below : goal.start-walk-requires-clause-below
start-walk-requires-clause-below c = omega (arith, rows-within c.args.edge c.args.sides.height c.in-Walk.rows c.in-Walk.ensures.cases.0, c.requires.height)

pub returns-in-Drop-clause-counts : goal.returns-in-Drop-clause-counts
returns-in-Drop-clause-counts c = λ i j column row. rw (drop-share c.args.edge c.args.sides.width c.args.sides.height i j c.in-Drop.ensures.cases column row) (omega arith)

pub returns-in_ok-push-in-LeftOfView-clause-counts : goal.returns-in_ok-push-in-LeftOfView-clause-counts
returns-in_ok-push-in-LeftOfView-clause-counts c = λ i j column row.
    let is = c.in-LeftOfView.ensures.cases in
    let xs = c.args.crossings.now.items in
    rw c.in_ok-push-in-LeftOfView.ensures.items
    (sum_by_push (λ (x : Crossing). cond {A = ℕ} (reaches i j x) 1 0) xs (crossing.Left c.in-LeftOfView.rows)
    ∙ ap (λ (b : Bool). count_by (reaches i j) xs + cond {A = ℕ} b 1 0) (sym (left-share c.args.edge c.args.sides.height i j c.in-LeftOfView.rows is.0 is.2 row)))

pub returns-in_ok-push-in-Walk-clause-counts : goal.returns-in_ok-push-in-Walk-clause-counts
returns-in_ok-push-in-Walk-clause-counts c = λ i j column row.
    let is = c.in-Walk.ensures.cases in
    let xs = c.args.crossings.now.items in
    let reach : reaches i j (crossing.Walk c.start-walk.result) ≡ (has_row c.in-Walk.rows j && int_le (column_of c.args.edge j) (pos i)) =
    ap (λ w. reaches i j (crossing.Walk w)) c.start-walk.ensures.walk in
    rw c.in_ok-push-in-Walk.ensures.items
    (sum_by_push (λ (x : Crossing). cond {A = ℕ} (reaches i j x) 1 0) xs (crossing.Walk c.start-walk.result)
    ∙ ap (λ (b : Bool). count_by (reaches i j) xs + cond {A = ℕ} b 1 0) (reach ∙ sym (walk-share c.args.edge c.args.sides.height i j c.in-Walk.rows is.0 row)))

pub returns-in-Drop-clause-work : goal.returns-in-Drop-clause-work
returns-in-Drop-clause-work c = rw (← c.in-Drop.ensures.class)

pub returns-in_ok-push-in-LeftOfView-clause-work : goal.returns-in_ok-push-in-LeftOfView-clause-work
returns-in_ok-push-in-LeftOfView-clause-work c = rw (← c.in-LeftOfView.ensures.class)

pub returns-in_ok-push-in-Walk-clause-work : goal.returns-in_ok-push-in-Walk-clause-work
returns-in_ok-push-in-Walk-clause-work c = rw (← c.in-Walk.ensures.class) c.start-walk.ensures.work
