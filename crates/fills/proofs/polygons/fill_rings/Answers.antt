use Rattle.std.proofs.Common.{◌≡◌, None, Some}
use Rattle.canvas.proofs.Painting.{painted-none}
use Rattle.fills.proofs.polygons.fill_rings.Goals as goal

pub returns-in_default : goal.returns-in_default
returns-in_default c =
    let is : c.args.style.now.colour ≡ None = rw c.get.ensures.value at c.in_default.is in
    rw is (painted-none c.args.canvas.now)

pub returns-in-Ok : goal.returns-in-Ok
returns-in-Ok c =
    let is : c.args.style.now.colour ≡ Some c.in-Some.colour = rw c.get.ensures.value at c.in-Some.is in
    rw is c.in-Ok.ensures.ok

pub returns-in-Err-TooMany : goal.returns-in-Err-TooMany
returns-in-Err-TooMany c =
    let is : c.args.style.now.colour ≡ Some c.in-Some.colour = rw c.get.ensures.value at c.in-Some.is in
    rw is (rw c.in-Err-TooMany.ensures.err at c.fill_by_sweep.ensures)
