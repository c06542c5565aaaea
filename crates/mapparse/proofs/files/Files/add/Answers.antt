use Rattle.std.proofs.Common.{◌<◌, length, ap, ◌∙◌, sym, arith}
use Rattle.mapparse.specs.Files.{has_name}
use Rattle.mapparse.proofs.Replaced.{replaced, same-element}
use Rattle.mapparse.proofs.files.Files.add.Goals as goal

pub returns-then-eq-clause-ok : goal.returns-then-eq-clause-ok
returns-then-eq-clause-ok c =
    let below : c.loop-index.index < length c.args.self.now = omega (arith, c.loop-index-test.true, ap length c.loop-index.invariant.same) in
    let seen = rw (c.as_str.ensures, c.as_str-in-loop-index.ensures) at (sym c.eq.ensures ∙ c.if-eq.true) in
    rw c.loop-index.invariant.same
    (replaced c.args.name c.args.bytes c.args.self.now c.loop-index.index c.index_mut.result.now below
    (rw c.loop-index.invariant.same at c.index_mut.ensures.value)
    (ap (has_name c.args.name) (same-element c.args.self.now c.loop-index.index c.index_mut.result.now c.index.result.now below (rw c.loop-index.invariant.same at c.index_mut.ensures.value) (rw c.loop-index.invariant.same at c.index.ensures)) ∙ seen)
    ∙ c.loop-index.invariant.rest)
