use Rattle.std.proofs.Common.{◌≡◌, ◌∙◌, ◌^◌, arith}
use Rattle.scanfill.proofs.Words.{product-is, wide, word}
use Rattle.strokes.proofs.round_step.is_square_at_most.Goals as goal

pub returns : goal.returns
returns c =
    let a : c.from.result ≡ c.args.a = c.from.ensures ∙ word (2 ^ 51) c.args.a (omega arith) c.requires.a in
    let again : c.from-2.result ≡ c.args.a = c.from-2.ensures ∙ word (2 ^ 51) c.args.a (omega arith) c.requires.a in
    rw (
      a,
      again,
      product-is (2 ^ 51) (2 ^ 51) c.args.a c.args.a (omega arith) (omega arith) (omega arith) c.requires.a c.requires.a,
      wide (2 ^ 120) c.args.most (omega arith) c.requires.most,
    )
