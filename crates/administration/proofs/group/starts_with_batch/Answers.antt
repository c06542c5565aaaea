use Rattle.std.proofs.Common.{◌≡◌, ◌-◌, ◌≤◌, ◌<◌, ◌∙◌, length, take, drop, arith, refl, sym, ap}
use Rattle.std.proofs.lemmas.Grind.{common_steps}
use Rattle.administration.specs.Commands.{line_of}
use Rattle.administration.specs.declared.line.ClientLine.TheVariants as line
use Rattle.administration.proofs.Commands.{starts-batch}
use Rattle.administration.proofs.group.starts_with_batch.Goals as goal

pub returns-in-Batch : goal.returns-in-Batch
returns-in-Batch c fits =
    let rest = c.split_at.result.1.now in
    let after = take (length rest - 1) (drop 1 rest) in
    let enough : c.in-Batch.count ≤ length after = grind (arith, common_steps, fits) in
    let short : c.line_len.result < 33 = omega (arith, c.if-line-lt-MAX_LINE_BYTES.true, c.split_at.ensures.front_len) in
    let says : line.Batch c.in-Batch.count ≡ line_of (take c.line_len.result c.args.bytes.now) = sym c.in-Batch.is ∙ (c.line_of.ensures ∙ ap line_of c.split_at.ensures.front) in (
      take c.in-Batch.count after,
      drop c.in-Batch.count after,
      starts-batch c.args.bytes.now rest after c.line_len.result c.in-Batch.count c.line_len.ensures.index c.split_at.ensures.back c.in-len1-up.len_at_least refl short says enough,
    )
