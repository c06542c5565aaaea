use Rattle.std.proofs.Common.{◌∙◌, ◌<◌, ◌≤◌, ap, arith}
use Rattle.geom.specs.EvenOdd.{is_odd}
use Rattle.scanfill.proofs.sweep.Sweep.skip.Goals as goal

pub invariant_of-self : goal.invariant_of-self
invariant_of-self c =
    let r = c.self.invariant in
    record {
      most = c.skip.ensures.to;
      quiet = r.quiet;
      counts = λ i j column from below. rw c.skip.ensures.list (r.counts i j column (omega (arith, c.skip.ensures.from)) below);
    }

pub returns-clause-empty : goal.returns-clause-empty
returns-clause-empty c = λ i j column from past.
    let s = c.self.inside in
    let r = c.self.invariant in
    let width : i < s.width = rw (← c.self.view_is) at column in
    let start : s.crossings.row ≤ j = rw (← c.self.view_is) at from in
    rw (← c.self.view_is) (ap is_odd (r.counts i j width start (omega (arith, c.skip.ensures.to)) ∙ c.skip.ensures.empty i j start past))
