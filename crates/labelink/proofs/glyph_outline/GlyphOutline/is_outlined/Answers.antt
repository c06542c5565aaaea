use Rattle.std.proofs.Common.{◌≡◌, ◌∙◌, ◌+◌, Bool, ◌||◌, to_z, of_z, w64, arith}
use Rattle.std.proofs.lemmas.Int.{ints}
use lib.IntN.{pos, ◌+ℤ◌, ◌-ℤ◌}
use Rattle.labelink.specs.Ink.{covers_glyph}
use Rattle.labelink.proofs.Inked.{eight-tests, passed-first, passed-second, same-eight}
use Rattle.labelink.proofs.glyph_outline.GlyphOutline.is_outlined.Goals as goal

pub returns-then-covers_near : goal.returns-then-covers_near
returns-then-covers_near c =
    let i = c.args.i in
    let j = c.args.j in
    let at = covers_glyph c.args.self.now in
    let a : Bool = at (pos i -ℤ pos 1) (pos j -ℤ pos 1) in
    let b : Bool = at (pos i) (pos j -ℤ pos 1) in
    let d : Bool = at (pos (i + 1)) (pos j -ℤ pos 1) in
    let e : Bool = at (pos i -ℤ pos 1) (pos j) in
    let f : Bool = at (pos (i + 1)) (pos j) in
    let g : Bool = at (pos i -ℤ pos 1) (pos (j + 1)) in
    let h : Bool = at (pos i) (pos (j + 1)) in
    let k : Bool = at (pos (i + 1)) (pos (j + 1)) in
    let held : to_z w64 (of_z w64 (to_z w64 (of_z w64 c.from.result) -ℤ pos 1)) ≡ pos j -ℤ pos 1 = omega (arith, ints, c.from.ensures) in
    let still : pos i ≡ pos i +ℤ pos 0 = omega (arith, ints) in
    let level : pos j ≡ pos j +ℤ pos 0 = omega (arith, ints) in
    let same = same-eight at (pos i -ℤ pos 1) (pos i) (pos i +ℤ pos 0) (pos (i + 1)) (pos j -ℤ pos 1) (pos j) (pos j +ℤ pos 0) (pos (j + 1)) still level in
    let near : c.covers_near.result ≡ (a || (b || d)) = rw held at c.covers_near.ensures in
    passed-first c.covers_near.result (a || (b || d)) ((e || f) || (g || (h || k))) near c.if-covers_near.true ∙ eight-tests a b d e f g h k ∙ same

pub returns-else-covers_near : goal.returns-else-covers_near
returns-else-covers_near c =
    let i = c.args.i in
    let j = c.args.j in
    let at = covers_glyph c.args.self.now in
    let a : Bool = at (pos i -ℤ pos 1) (pos j -ℤ pos 1) in
    let b : Bool = at (pos i) (pos j -ℤ pos 1) in
    let d : Bool = at (pos (i + 1)) (pos j -ℤ pos 1) in
    let e : Bool = at (pos i -ℤ pos 1) (pos j) in
    let f : Bool = at (pos (i + 1)) (pos j) in
    let g : Bool = at (pos i -ℤ pos 1) (pos (j + 1)) in
    let h : Bool = at (pos i) (pos (j + 1)) in
    let k : Bool = at (pos (i + 1)) (pos (j + 1)) in
    let held : to_z w64 (of_z w64 (to_z w64 (of_z w64 c.from.result) -ℤ pos 1)) ≡ pos j -ℤ pos 1 = omega (arith, ints, c.from.ensures) in
    let still : pos i ≡ pos i +ℤ pos 0 = omega (arith, ints) in
    let level : pos j ≡ pos j +ℤ pos 0 = omega (arith, ints) in
    let same = same-eight at (pos i -ℤ pos 1) (pos i) (pos i +ℤ pos 0) (pos (i + 1)) (pos j -ℤ pos 1) (pos j) (pos j +ℤ pos 0) (pos (j + 1)) still level in
    let near : c.covers_near.result ≡ (a || (b || d)) = rw held at c.covers_near.ensures in
    passed-second c.covers_near.result c.covers_beside_or_below.result (a || (b || d)) ((e || f) || (g || (h || k))) near c.if-covers_near.false c.covers_beside_or_below.ensures
    ∙ eight-tests a b d e f g h k ∙ same
