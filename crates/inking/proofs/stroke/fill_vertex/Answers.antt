use Rattle.std.proofs.Common.{◌≡◌, ℕ, refl, arith}
use Rattle.geom.specs.Device.{PixelValue, pixel_of}
use Rattle.strokes.specs.Square.{SquareValue}
use Rattle.inking.proofs.stroke.fill_vertex.Goals as goal

abbrev square_of : PixelValue → ℕ → SquareValue
square_of pixel size = record { pixel = pixel; size = size }

pub returns-then-width-eq1 : goal.returns-then-width-eq1
returns-then-width-eq1 c =
    let one : c.args.pen.now.width ≡ 1 = omega (arith, c.width-width.ensures.value, c.if-width-eq1.true) in
    let square : square_of c.pixel-pixel.result 1 ≡ record { pixel = pixel_of c.args.vertex; size = c.args.pen.now.width } = rw (c.pixel-pixel.ensures, one) refl in
    rw (square, c.colour.ensures) at c.fill_pixel.ensures

pub returns : goal.returns
returns c =
    let wide : c.from.result ≡ c.args.pen.now.width = omega (arith, c.from.ensures, c.width-width.ensures.value) in
    let square : c.new.result ≡ record { pixel = pixel_of c.args.vertex; size = c.args.pen.now.width } = rw (c.new.ensures, wide, c.pixel-pixel.ensures) refl in
    rw (square, c.colour-2.ensures) at c.fill_square.ensures
