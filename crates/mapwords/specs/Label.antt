-- What a LABEL says (docs/MAPFILE.md, "Labels").
use Rattle.std.specs.Prelude.{ℕ, Bool, true, false, if◌then◌else◌, List, codes, Option, None, Some}
use Rattle.std.specs.Str.{str_eq_ignore_ascii_case}
use Rattle.mapdefs.specs.declared.label.Position.{Position}
use Rattle.mapdefs.specs.declared.label.Position.TheVariants.{UpperLeft, UpperCentre, UpperRight, CentreLeft, Centre, CentreRight, LowerLeft, LowerCentre, LowerRight, Automatic}

-- a position is named by its height, upper, centred or lower, and then by its side
abbrev pub position_of : List ℕ → Option Position
position_of text =
    if str_eq_ignore_ascii_case text (codes "UL") then Some UpperLeft
    else if str_eq_ignore_ascii_case text (codes "UC") then Some UpperCentre
    else if str_eq_ignore_ascii_case text (codes "UR") then Some UpperRight
    else if str_eq_ignore_ascii_case text (codes "CL") then Some CentreLeft
    else if str_eq_ignore_ascii_case text (codes "CC") then Some Centre
    else if str_eq_ignore_ascii_case text (codes "CR") then Some CentreRight
    else if str_eq_ignore_ascii_case text (codes "LL") then Some LowerLeft
    else if str_eq_ignore_ascii_case text (codes "LC") then Some LowerCentre
    else if str_eq_ignore_ascii_case text (codes "LR") then Some LowerRight
    else if str_eq_ignore_ascii_case text (codes "AUTO") then Some Automatic
    else None

-- a flag is TRUE or FALSE, in letters of either case
abbrev pub flag_of : List ℕ → Option Bool
flag_of text =
    if str_eq_ignore_ascii_case text (codes "TRUE") then Some true
    else if str_eq_ignore_ascii_case text (codes "FALSE") then Some false
    else None
