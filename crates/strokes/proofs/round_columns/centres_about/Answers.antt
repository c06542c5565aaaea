use Rattle.std.proofs.Common.{◌≡◌, ◌∙◌, ◌^◌, arith}
use Rattle.std.specs.Int.{int_max, int_min}
use lib.IntN.{ℤ}
use mir.Syntax.{w64}
use mir.Val.{to_z, of_z}
use Rattle.geom.specs.Range.{IsBelow}
use Rattle.scanfill.proofs.Words.{below-more, word}
use Rattle.strokes.proofs.Reaching.{greater-below, less-below}
use Rattle.strokes.proofs.Rounded.{below-less, below-sum, word-less, word-more}
use Rattle.strokes.proofs.round_columns.centres_about.Goals as goal

min-is : (r a b : ℤ) → r ≡ int_min (to_z w64 (of_z w64 a)) (to_z w64 (of_z w64 b)) → IsBelow (2 ^ 47) a → IsBelow (2 ^ 47) b → r ≡ int_min a b
min-is r a b e p q = e ∙ rw (word (2 ^ 47) a (omega arith) p, word (2 ^ 47) b (omega arith) q)

max-is : (r a b : ℤ) → r ≡ int_max (to_z w64 (of_z w64 a)) (to_z w64 (of_z w64 b)) → IsBelow (2 ^ 47) a → IsBelow (2 ^ 47) b → r ≡ int_max a b
max-is r a b e p q = e ∙ rw (word (2 ^ 47) a (omega arith) p, word (2 ^ 47) b (omega arith) q)

min-size : (r a b : ℤ) → r ≡ int_min a b → IsBelow (2 ^ 47) a → IsBelow (2 ^ 47) b → IsBelow (2 ^ 61) r
min-size r a b e p q = rw e (below-more (2 ^ 47) (2 ^ 61) (int_min a b) (omega arith) (less-below (2 ^ 47) a b p q))

max-size : (r a b : ℤ) → r ≡ int_max a b → IsBelow (2 ^ 47) a → IsBelow (2 ^ 47) b → IsBelow (2 ^ 61) r
max-size r a b e p q = rw e (below-more (2 ^ 47) (2 ^ 61) (int_max a b) (omega arith) (greater-below (2 ^ 47) a b p q))

pub centres_between-requires-clause-least : goal.centres_between-requires-clause-least
centres_between-requires-clause-least c =
    let least = min-is c.min.result c.args.a c.args.b c.min.ensures.value c.requires.a c.requires.b in
    let size = min-size c.min.result c.args.a c.args.b least c.requires.a c.requires.b in
    let half = below-more (2 ^ 11) (2 ^ 61) c.half-half.result (omega arith) c.half-half.ensures.range in
    rw (word-less c.min.result c.half-half.result size half) (below-less c.min.result c.half-half.result size half)

pub centres_between-requires-clause-most : goal.centres_between-requires-clause-most
centres_between-requires-clause-most c =
    let most = max-is c.max.result c.args.a c.args.b c.max.ensures.value c.requires.a c.requires.b in
    let size = max-size c.max.result c.args.a c.args.b most c.requires.a c.requires.b in
    let half = below-more (2 ^ 11) (2 ^ 61) c.half-half.result (omega arith) c.half-half.ensures.range in
    rw (word-more c.max.result c.half-half.result size half) (below-sum c.max.result c.half-half.result size half)

pub returns-clause-all : goal.returns-clause-all
returns-clause-all c = λ i h.
    let least = min-is c.min.result c.args.a c.args.b c.min.ensures.value c.requires.a c.requires.b in
    let most = max-is c.max.result c.args.a c.args.b c.max.ensures.value c.requires.a c.requires.b in
    let half = below-more (2 ^ 11) (2 ^ 61) c.half-half.result (omega arith) c.half-half.ensures.range in
    rw (
      word-less c.min.result c.half-half.result (min-size c.min.result c.args.a c.args.b least c.requires.a c.requires.b) half,
      word-more c.max.result c.half-half.result (max-size c.max.result c.args.a c.args.b most c.requires.a c.requires.b) half,
      c.half-half.ensures.value,
      least,
      most,
    ) at (c.centres_between.ensures.all i h)
