use Rattle.std.proofs.Common.{◌≡◌, ◌∙◌, ◌<◌, get_or, length, ap, sym, arith}
use Rattle.std.proofs.lemmas.List.{get_or_default}
use Rattle.scanfill.specs.Crossing.{IsNext, end_of, row_of}
use Rattle.scanfill.proofs.Marching.{gone-none, gone-ended, gone-on}
use Rattle.scanfill.proofs.crossings.go_on.Goals as goal
use Rattle.scanfill.proofs.crossings.go_on.Goals.{then-end-row, else-end-row}

pub loop-at-init : goal.loop-at-init
loop-at-init c = gone-none c.args.list.now c.args.row c.args.first c.args.begun c.requires.ordered

pub loop-at-preserved : goal.loop-at-preserved
loop-at-preserved c =
    let l = c.loop-at in
    let at = c.loop-at.at in
    let bound : at < length l.list = omega (arith, c.requires.ordered.within, c.loop-at-test.true, l.auto.list) in
    elim c.if-end-row.branch [
      | then-end-row w ↦ rw (w.list-is, w.passed-is, w.swap.ensures.after)
          (gone-ended c.args.list.now l.list c.args.row l.passed at l.invariant bound
          (λ d. ap end_of (get_or_default l.list at d c.index-list-at.result bound) ∙ (sym c.end.ensures ∙ w.if-end-row.true)))
      | else-end-row w ↦
          let was = w.index-list-at-else-end-row.result in
          let is = w.index-list-at-else-end-row.is in
          let first : l.at ≡ l.at = cc in
          let active = c.requires.ordered.active at was l.auto.at c.loop-at-test.true in
          let same : was ≡ get_or c.args.list.now at was = is ∙ l.invariant.rest at was (omega arith) (omega (arith, l.auto.list)) in
          let ends : end_of was ≡ c.end.result = ap end_of (is ∙ get_or_default l.list at was c.index-list-at.result bound) ∙ sym c.end.ensures in
          let next : IsNext was w.next_row.new.self = rw (← is) at w.next_row.ensures in
          let stands : row_of was ≡ c.args.row = ap row_of same ∙ active.0 in
          let lasts : c.args.row < end_of was = rw (← same) at active.1 in
          rw (w.list-is, w.passed-is)
          (gone-on c.args.list.now l.list c.args.row l.passed at was w.next_row.new.self l.invariant bound is stands (omega (arith, w.if-end-row.false)) next)
    ]
