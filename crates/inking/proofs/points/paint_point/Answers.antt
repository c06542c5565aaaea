use Rattle.std.proofs.Common.{◌≡◌, None, Some, ap, sym, ◌∙◌}
use Rattle.std.specs.Option.{option_copied}
use Rattle.std.specs.Prelude.{slice_get}
use Rattle.canvas.proofs.Painting.{painted-none}
use Rattle.inking.proofs.points.paint_point.Goals as goal

pub returns-in_default : goal.returns-in_default
returns-in_default c =
    let is : c.args.style.now.symbol ≡ Some c.in-Some.index = rw c.get-style.ensures.value at c.in-Some.is in
    let none : slice_get c.args.scene.now.map.symbols c.in-Some.index ≡ None = sym c.symbol.ensures ∙ ap option_copied c.in_default.is in
    rw (is, none) (painted-none c.args.canvas.now)
