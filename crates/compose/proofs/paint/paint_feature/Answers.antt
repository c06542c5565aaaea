use Rattle.std.proofs.Common.{◌≡◌}
use Rattle.mapdefs.specs.declared.layer.Geometry.TheVariants as kind
use Rattle.compose.proofs.paint.paint_feature.Goals as goal

pub returns-in-Polygon : goal.returns-in-Polygon
returns-in-Polygon c =
    let is : c.args.classified.now.layer.kind ≡ kind.Polygon = rw c.layer.ensures at c.in-Polygon.is in
    rw is (rw (c.as_slice-parts.ensures, c.as_slice-styles.ensures, c.feature.ensures, c.class.ensures) at c.paint_polygon.ensures)

pub returns-in-Line : goal.returns-in-Line
returns-in-Line c =
    let is : c.args.classified.now.layer.kind ≡ kind.Line = rw c.layer.ensures at c.in-Line.is in
    rw is (rw (c.as_slice-parts.ensures, c.as_slice-styles.ensures, c.feature.ensures, c.class.ensures) at c.paint_lines.ensures)
