use Rattle.crsaxes.proofs.Parts.{parts-five}
use Rattle.crsaxes.proofs.area.four_parts.Goals as goal

pub returns-in-Some : goal.returns-in-Some
returns-in-Some c = λ crs.
    rw (c.in_ok-a.ensures, c.in_ok-b.ensures, c.in_ok-c.ensures, c.in-Some.ensures)
    (parts-five crs c.in_ok-a.a.now c.in_ok-b.b.now c.in_ok-c.c.now c.in-Some.field-0.0.now c.in-Some.field-0.1.now)
