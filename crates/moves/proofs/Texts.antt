-- Texts as they lie from a pixel.
use Rattle.std.proofs.Common.{◌≡◌, ◌∙◌, ℕ, List, refl, sym, arith}
use Rattle.std.proofs.lemmas.Int.{ints}
use lib.IntN.{ℤ, ◌+ℤ◌}
use Rattle.bdffont.specs.Ink.{has_ink}
use Rattle.geom.specs.Device.{PixelValue}
use Rattle.mapdefs.specs.declared.font.FontFields.{FontFields}
use Rattle.labelink.specs.Ink.{steps_of}
use Rattle.labelink.proofs.Inked.{any-same, ink-moved}
use Rattle.moves.specs.Laws.{InkMoves, OutlinesMove}
use Rattle.moves.specs.Moves.{pixel_from}

-- two columns and rows that are the same
ink-at : (font : FontFields) (characters : List ℕ) (at : PixelValue) (i j i' j' : ℤ) → i ≡ i' → j ≡ j' → has_ink font characters at i j ≡ has_ink font characters at i' j'
ink-at font characters at i j i' j' e f = rw (e, f) refl

other-way : (a b : ℤ) → b +ℤ a ≡ a +ℤ b
other-way a b = omega (arith, ints)

pub ink-moves : InkMoves
ink-moves c font characters at i j =
    sym (ink-moved font at c i j 0 characters) ∙ ink-at font characters at (i +ℤ c.i) (j +ℤ c.j) (c.i +ℤ i) (c.j +ℤ j) (other-way c.i i) (other-way c.j j)

regroup : (a b c : ℤ) → a +ℤ (b +ℤ c) ≡ (a +ℤ b) +ℤ c
regroup a b c = omega (arith, ints)

pub outlines-move : OutlinesMove
outlines-move c reach font characters at i j =
    any-same (λ step. has_ink font characters (pixel_from c at) (i +ℤ step.i) (j +ℤ step.j)) (λ step. has_ink font characters at ((c.i +ℤ i) +ℤ step.i) ((c.j +ℤ j) +ℤ step.j)) (steps_of reach)
    (λ step. ink-moves c font characters at (i +ℤ step.i) (j +ℤ step.j)
    ∙ ink-at font characters at (c.i +ℤ (i +ℤ step.i)) (c.j +ℤ (j +ℤ step.j)) ((c.i +ℤ i) +ℤ step.i) ((c.j +ℤ j) +ℤ step.j) (regroup c.i i step.i) (regroup c.j j step.j))
