use Rattle.std.proofs.Common.{◌≡◌, ◌<◌, ◌≤◌, ⊎_elim, refl, arith}
use Rattle.std.proofs.lemmas.Bool.{cases_lt}
use Rattle.labelcache.specs.Cells.{cell_of}
use Rattle.labelcache.proofs.Marking.{level-of}
use Rattle.labelcache.proofs.cells.mark_above.Goals as goal

pub loop-level-preserved : goal.loop-level-preserved
loop-level-preserved c =
    let level = c.loop-level.level in
    let some = c.loop-level-test.true in
    let cell = c.cell_of.ensures in
    record {
      most = omega (arith, c.loop-level.invariant.most);
      grows = λ q h. c.mark_cell.ensures.grows q (c.loop-level.invariant.grows q h);
      done = λ k above most. ⊎_elim
          (λ (lt : level < k). c.mark_cell.ensures.grows (cell_of k c.args.point) (c.loop-level.invariant.done k lt most))
          (λ (le : k ≤ level).
          let e : k ≡ level = omega (arith, above, le, some) in
          rw e (rw cell at c.in_ok-mark_cell.ensures.done))
          (cases_lt level k);
      only = λ q low h. ⊎_elim
          (λ old. c.loop-level.invariant.only q low old)
          (λ is. absurd (level-of q c.cell_of.result level is low (rw cell refl) some))
          (c.in_ok-mark_cell.ensures.only q h);
    }
