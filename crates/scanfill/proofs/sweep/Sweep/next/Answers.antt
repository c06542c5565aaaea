use Rattle.std.proofs.Common.{◌∙◌, false, length, replicate, ap, sym, arith}
use Rattle.std.proofs.lemmas.List.{length-replicate}
use Rattle.scanfill.proofs.Sweeping.{ran, swept-runs}
use Rattle.scanfill.proofs.sweep.Sweep.next.Goals as goal

pub invariant_of-self-2 : goal.invariant_of-self-2
invariant_of-self-2 c =
    let s = c.self.inside in
    let r = c.self.invariant in
    record {
      most = omega (arith, c.next_row.ensures.row);
      quiet = c.clear-2.ensures ∙ ap (λ n. replicate n false) (c.flip_all.ensures.width ∙ (ap length r.quiet ∙ length-replicate s.width false));
      counts = λ i j column from below.
          r.counts i j column (omega (arith, c.next_row.ensures.row)) below ∙ sym (c.next_row.ensures.reach i j (omega (arith, c.next_row.ensures.row)));
    }

pub returns-clause-row : goal.returns-clause-row
returns-clause-row c = λ more.
    let s = c.self.inside in
    let runs = ran c.read-read.result c.if-is_err.ensures.value c.read-read.ensures in
    rw (← c.self.view_is)
    (swept-runs s.edges.now s.width s.height s.crossings.row s.crossings.list.items s.flips c.flip_all.new.flips c.read-read.new.out
    c.self.invariant (omega arith) c.flip_all.ensures.width c.flip_all.ensures.all runs)
