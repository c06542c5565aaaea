use Rattle.std.proofs.Common.{length, arith}
use Rattle.std.proofs.lemmas.Result.{on_ok_weaker}
use Rattle.scanfill.specs.RowFlips.{is_flipped}
use Rattle.scanfill.proofs.Flipping.{quiet-start, quiet-end}
use Rattle.scanfill.proofs.row_flips.read_flips.Goals as goal

pub loop-column-init : goal.loop-column-init
loop-column-init c =
    let start = quiet-start c.args.flips.now c.args.first c.args.past c.requires.within in
    record {
      rising = omega arith;
      bound = omega arith;
      parity = start.0;
      same = start.1;
      read = rw c.requires.empty (λ rest runs. runs);
    }

pub returns : goal.returns
returns c =
    let l = c.loop-column in
    let xs = c.args.flips.now in
    let same = quiet-end xs c.args.first c.args.past l.at l.column (length xs) l.is_inside c.requires.within c.loop-column-test.false l.invariant.parity l.invariant.same in
    let read = c.in_ok-reading-2.ensures (is_flipped xs) (length xs) (omega arith) same l.invariant.read in
    on_ok_weaker c.finish.result (λ ended. ended (is_flipped xs) read) c.finish.ensures
