use Rattle.std.proofs.Common.{◌∙◌, sym, arith}
use Rattle.std.proofs.lemmas.List.{take_rest}
use Rattle.subcommands.proofs.Parting.{parted-here, passed-here, are-no-parts}
use Rattle.subcommands.proofs.parts.split_session.Goals as goal

pub returns-then-eq : goal.returns-then-eq
returns-then-eq c =
    parted-here c.args.session.now _ _ _ c.loop-at.at (take_rest c.args.session.now c.loop-at.at) c.split_line.ensures.line c.split_line.ensures.rest
    c.loop-at-test.true c.loop-at.invariant.first (rw c.as_slice.ensures at (sym c.eq.ensures ∙ c.if-eq.true))

pub loop-at-preserved : goal.loop-at-preserved
loop-at-preserved c = record {
  first =
      passed-here c.args.session.now _ _ _ c.loop-at.at (take_rest c.args.session.now c.loop-at.at) c.split_line.ensures.line c.split_line.ensures.rest
      c.loop-at-test.true c.loop-at.invariant.first (rw c.as_slice.ensures at (sym c.eq.ensures ∙ c.if-eq.false));
  within = omega arith;
}

pub returns : goal.returns
returns c = are-no-parts c.args.session.now (omega (arith, c.loop-at-test.false, c.loop-at.invariant.first))
