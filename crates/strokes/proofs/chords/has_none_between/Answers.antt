use Rattle.std.proofs.Common.{◌≡◌, ◌∙◌, ◌^◌, true, sym, arith}
use Rattle.std.specs.Prelude.{int_le}
use lib.IntN.{pos, ◌+ℤ◌, ◌*ℤ◌}
use Rattle.geom.proofs.Products.{le_of}
use Rattle.scanfill.proofs.Words.{wide, word}
use Rattle.strokes.specs.Round.{IsRoot, square}
use Rattle.strokes.proofs.Gaps.{none-between}
use Rattle.strokes.proofs.chords.has_none_between.Goals as goal

pub returns-then-root-lt1048576 : goal.returns-then-root-lt1048576
returns-then-root-lt1048576 c = λ yes.
    let r = c.root-root.result in
    let l = c.args.length in
    let n = c.args.limit in
    let limit = wide (2 ^ 120) n (omega arith) c.requires.range in
    let is : IsRoot n r = rw limit at c.root-root.ensures.root in
    let test : int_le (pos 4 *ℤ square r +ℤ square l) (pos 4 *ℤ n) ≡ true =
    sym (rw (word (2 ^ 61) r (omega arith) c.root-root.ensures.range, word (2 ^ 10) l (omega arith) c.requires.length, limit) at c.is_apart.ensures) ∙ yes in
    none-between n l r is (le_of (pos 4 *ℤ square r +ℤ square l) (pos 4 *ℤ n) test)
