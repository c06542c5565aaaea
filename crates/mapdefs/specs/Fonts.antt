-- The fonts of labels (docs/MAPFILE.md, "Labels").
use Rattle.std.specs.Prelude.{List, Option, slice_get, option_and_then}
use Rattle.mapdefs.specs.declared.font.FontFields.{FontFields}
use Rattle.mapdefs.specs.declared.label.LabelFields.{LabelFields}

-- the font of a label: that of its index among the map's, where there is one
abbrev pub label_font : List FontFields → LabelFields → Option FontFields
label_font fonts label = option_and_then (slice_get fonts) label.font
