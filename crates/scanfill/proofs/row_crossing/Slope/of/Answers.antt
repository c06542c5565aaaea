use Rattle.std.proofs.Common.{◌≡◌, ◌^◌, ◌∙◌, arith}
use Rattle.std.specs.Int.{int_div_euclid}
use lib.IntN.{◌-ℤ◌, ◌*ℤ◌}
use Rattle.geom.specs.Edge.{rise, run}
use Rattle.geom.specs.Range.{IsBelow}
use Rattle.geom.proofs.Quotients.{quotient-below}
use Rattle.scanfill.specs.Walk.{slope_of}
use Rattle.scanfill.proofs.Words.{word}
use Rattle.scanfill.proofs.row_crossing.Slope.of.Goals as goal

pub returns : goal.returns
unfolding slope_of
returns c =
    let e = c.args.edge in
    let below_run : IsBelow (2 ^ 48) (run e) = rw c.run-run.ensures.value at c.run-run.ensures.range in
    let step : c.div_euclid-step.result ≡ int_div_euclid (run e) (rise e) = c.div_euclid-step.ensures ∙ rw (
      word (2 ^ 48) c.run-run.result (omega arith) c.run-run.ensures.range,
      c.run-run.ensures.value,
      word (2 ^ 48) c.rise-rise.result (omega arith) c.rise-rise.ensures.range,
      c.rise-rise.ensures.value,
    ) in
    let rest : c.rest_of.result ≡ run e -ℤ int_div_euclid (run e) (rise e) *ℤ rise e = c.rest_of.ensures.value ∙ rw (
      word (2 ^ 48) c.run-run.result (omega arith) c.run-run.ensures.range,
      c.run-run.ensures.value,
      word (2 ^ 48) c.rise-rise.result (omega arith) c.rise-rise.ensures.range,
      c.rise-rise.ensures.value,
      step,
      word (2 ^ 48) (int_div_euclid (run e) (rise e)) (omega arith) (quotient-below (2 ^ 48) (run e) (rise e) c.requires below_run),
    ) in
    rw (
      step,
      word (2 ^ 48) (int_div_euclid (run e) (rise e)) (omega arith) (quotient-below (2 ^ 48) (run e) (rise e) c.requires below_run),
      word (2 ^ 52) c.sixteen_times.result (omega arith) c.sixteen_times.ensures.range,
      c.sixteen_times.ensures.value,
      word (2 ^ 48) c.rise-rise.result (omega arith) c.rise-rise.ensures.range,
      c.rise-rise.ensures.value,
      word (2 ^ 52) c.sixteen_times-2.result (omega arith) c.sixteen_times-2.ensures.range,
      c.sixteen_times-2.ensures.value,
      word (2 ^ 48) c.rest_of.result (omega arith) c.rest_of.ensures.range,
      rest,
    )
