use Rattle.std.proofs.Common.{rules, ◌≡◌, ◌∙◌, ◌+◌, ◌-◌, ◌*◌, ◌<◌, ◌≤◌, arith, refl, sym}
use Rattle.std.proofs.lemmas.Bool.{false≢true}
use Rattle.collide.proofs.Marking.{below-to, bit-is, bit-to, has-pixel, none-next, row-within}
use Rattle.collide.specs.Bits.{HasAny}
use Rattle.collide.proofs.marks.Marks.has_marked.Goals as goal

pub returns-then-has_any : goal.returns-then-has_any
returns-then-has_any c =
    let marks = c.args.self.now in
    let any = rw c.deref.ensures.value at (c.has_any.ensures.0 c.if-has_any.true) in
    let l = bit-is _ _ _ _ c.bit_of-left.ensures.value c.left.ensures (search rules) in
    let r = bit-is _ _ _ _ c.bit_of-right.ensures.value c.right.ensures (search rules) in
    let t = bit-is _ _ _ _ c.bit_of-top.ensures.value c.top.ensures (search rules) in
    let b = bit-is _ _ _ _ c.bit_of-bottom.ensures.value c.bottom.ensures (search rules) in
    let row = c.loop-row.row in
    let low = any.first in
    let high = any.last in
    let column = any.number - row * marks.columns in
    let at : row * marks.columns + column ≡ any.number = omega (arith, low) in
    let from : c.bit_of-left.result ≤ column = omega (arith, low) in
    let past : column < c.bit_of-right.result = omega (arith, low, high) in
    let left : column < marks.columns = omega (arith, past, c.bit_of-right.ensures.most) in
    let up : row < marks.rows = omega (arith, c.loop-row-test.true, c.bit_of-bottom.ensures.most) in
    let first = c.loop-row.invariant.first in
    let last = c.loop-row-test.true in (
      λ h. record {
        column = column;
        row = row;
        left = left;
        up = up;
        has = has-pixel marks.columns marks.rows column row c.args.area left up (rw l at from) (rw r at past) (rw t at first) (rw b at last);
        is = rw at any.is;
      },
      λ h. refl,
    )

pub loop-row-preserved : goal.loop-row-preserved
loop-row-preserved c =
    let marks = c.args.self.now in
    let start = c.loop-row.row * marks.columns in
    let found = rw c.deref.ensures.value at c.has_any.ensures.1 in
    let none : HasAny (start + c.bit_of-left.result) (start + c.bit_of-right.result) marks.words.items → ⊥ = λ h. false≢true (sym c.if-has_any.false ∙ found h) in
    record {
      first = omega (arith, c.loop-row.invariant.first);
      none = none-next c.args.self.now.columns c.bit_of-left.result c.bit_of-right.result c.bit_of-top.result c.loop-row.row c.args.self.now.words.items none c.loop-row.invariant.none;
    }

pub returns : goal.returns
returns c =
    let marks = c.args.self.now in
    let l = bit-is _ _ _ _ c.bit_of-left.ensures.value c.left.ensures (search rules) in
    let r = bit-is _ _ _ _ c.bit_of-right.ensures.value c.right.ensures (search rules) in
    let t = bit-is _ _ _ _ c.bit_of-top.ensures.value c.top.ensures (search rules) in
    let b = bit-is _ _ _ _ c.bit_of-bottom.ensures.value c.bottom.ensures (search rules) in (
      λ h. absurd (false≢true h),
      λ m.
          let low = rw (← t) at (bit-to marks.rows m.row c.args.area.top m.up m.has.top) in
          let high = rw (← b) at (below-to marks.rows m.row c.args.area.bottom m.up m.has.bottom) in
          let from = rw (← l) at (bit-to marks.columns m.column c.args.area.left m.left m.has.left) in
          let past = rw (← r) at (below-to marks.columns m.column c.args.area.right m.left m.has.right) in
          absurd (c.loop-row.invariant.none m.column m.row m.left low (omega (arith, high, c.loop-row-test.false)) from past m.is),
    )

pub has_any-requires : goal.has_any-requires
has_any-requires c =
    rw c.deref.ensures.value
    (row-within c.args.self.now.columns c.args.self.now.rows c.loop-row.row c.bit_of-right.result _ (omega (arith, c.loop-row-test.true, c.bit_of-bottom.ensures.most)) c.bit_of-right.ensures.most c.requires.words)
