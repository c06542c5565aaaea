-- The sizes of styles and labels (docs/MAPFILE.md, "Blocks and words").
use Rattle.std.specs.Prelude.{◌≤◌}
use Rattle.mapdefs.specs.declared.style.StyleFields.{StyleFields}
use Rattle.mapdefs.specs.declared.label.LabelFields.{LabelFields}
use Rattle.mapdefs.specs.declared.limits.TheConstants.{MAX_LINE_WIDTH, MAX_SQUARE, MAX_OUTLINE_WIDTH, MAX_PRIORITY, MAX_BUFFER, MAX_DISTANCE}

-- lines and squares have one pixel at least, and are not too wide
pub record IsStyleWithinLimits (s : StyleFields) : Type 0 where
  pub some_width : 1 ≤ s.width
  pub width : s.width ≤ MAX_LINE_WIDTH
  pub some_size : 1 ≤ s.size
  pub size : s.size ≤ MAX_SQUARE

-- outline and priority are 1 at least, and neither they nor a distance are too great
pub record IsLabelWithinLimits (l : LabelFields) : Type 0 where
  pub some_outline : 1 ≤ l.outline_width
  pub outline_width : l.outline_width ≤ MAX_OUTLINE_WIDTH
  pub some_priority : 1 ≤ l.priority
  pub priority : l.priority ≤ MAX_PRIORITY
  pub buffer : l.buffer ≤ MAX_BUFFER
  pub mindistance : l.mindistance ≤ MAX_DISTANCE
