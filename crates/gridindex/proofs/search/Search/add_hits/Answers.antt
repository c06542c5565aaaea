use Rattle.std.proofs.Common.{◌≡◌, arith, refl}
use Rattle.gridindex.proofs.Hits.{found-more, found-missed}
use Rattle.gridindex.proofs.search.Search.add_hits.Goals as goal
use Rattle.gridindex.proofs.search.Search.add_hits.Goals.{then-is_hit+in_ok-push, else-is_hit}

pub loop-at-preserved : goal.loop-at-preserved
loop-at-preserved c = λ start. let before = c.loop-at.invariant start in elim c.if-is_hit.branch [
  | then-is_hit+in_ok-push w ↦ rw (w.found-is, w.in_ok-push.ensures.items)
      (found-more _ _ _ _ c.loop-at.at _ c.requires.once (omega (arith, c.requires.bound)) refl (w.if-is_hit.ensures.0 refl) before)
  | else-is_hit w ↦ rw w.found-is
      (found-missed _ _ _ _ c.loop-at.at _ (omega arith) (λ i p q m. let e : i ≡ c.loop-at.at = omega arith in let bad = w.if-is_hit.ensures.1 (rw e at m) in absurd (cc)) before)
]

pub returns : goal.returns
returns c = let e : c.loop-at.at ≡ c.args.part.end = omega (arith, c.loop-at-test.false, c.loop-at.auto.at-end c.requires.rising) in rw (← e) c.loop-at.invariant
