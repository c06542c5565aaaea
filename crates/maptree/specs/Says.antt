-- What one token says in a block (docs/MAPFILE.md, "Blocks and words").
use Rattle.std.specs.Prelude.{ℤ, Bool, false, if◌then◌else◌, nat_le, List, ◌==◌, length, is_some, Option, None, Some, option_and_then, Result, Ok, Err}
use Rattle.std.specs.Option.{ok_or}
use Rattle.maplex.specs.Token.{TokenValue}
use Rattle.mapdefs.specs.declared.limits.TheConstants.{MAX_SYMBOLS, MAX_LAYERS, MAX_CLASSES, MAX_STYLES, MAX_FEATURES, MAX_VERTICES}
use Rattle.mapdefs.specs.declared.layer.Geometry.{Geometry}
use Rattle.mapwords.specs.declared.role.Block.{Block}
use Rattle.mapwords.specs.declared.role.Block.TheVariants as block
use Rattle.mapwords.specs.declared.role.Expected.{Expected}
use Rattle.mapwords.specs.declared.role.Role.{Role}
use Rattle.mapwords.specs.declared.role.Role.TheVariants as role
use Rattle.mapwords.specs.declared.named.Named.{Named}
use Rattle.mapwords.specs.declared.table.TextKeyword.TheVariants as text
use Rattle.mapwords.specs.declared.fault.Fault.{Fault}
use Rattle.mapwords.specs.declared.fault.ParseKind.TheVariants.{UnknownWord, WrongValue, MissingValue, Limit, DuplicateName}
use Rattle.maptree.specs.declared.tree.LayerTree.{LayerTree}
use Rattle.maptree.specs.Data.{table_fault}
use Rattle.maptree.specs.Entries.{Entries, values, blocks, last_block, vertices, vertex_count}
use Rattle.mapwords.specs.Fault.{fault_of, refused}
use Rattle.mapdefs.specs.Outcome.{and_then}
use Rattle.maptree.specs.Name.{is_taken}
use Rattle.mapwords.specs.Setting.{pair_expects}
use Rattle.mapwords.specs.Keyword.{keyword_at, is_end}
use Rattle.mapwords.specs.Table.{role_in}
use Rattle.maptree.specs.Outline.{map_fault}
use Rattle.maptree.specs.Smoothing.{is_smooth}
use Rattle.maptree.specs.Symbol.{symbol_fault}
use Rattle.mapwords.specs.Value.{is_value, coordinate_in}
use Rattle.maptree.specs.Tree.{map_tree}
use Rattle.mapvalues.specs.Values.{geometry_in, last, text_in}

-- what a token says: the block ends, an inner block opens, a keyword takes values, a vertex has this longitude, or nothing
pub data Saying : Type 0 where
  Ends : Saying
  Opens : Block → Saying
  Takes : Expected → Saying
  Longitude : ℤ → Saying
  Skips : Saying

-- the END of a LAYER requires a NAME, which no earlier layer has, and a TYPE, which its table may have
abbrev pub layer_end_fault : Option Named → Option Geometry → Option Named → List LayerTree → TokenValue → Option Fault
layer_end_fault (Some name) (Some geometry) table earlier t =
    if is_taken name.text earlier then Some (record { line = name.line; kind = DuplicateName }) else table_fault geometry table
layer_end_fault _ _ table earlier t = Some (fault_of MissingValue t)

-- what is wrong at the END of a block, by what its parent says before it and what it says itself
abbrev pub closing_fault : Block → Entries → Entries → TokenValue → Option Fault
closing_fault block.Map above own t = map_fault (map_tree own).values (map_tree own).symbols (map_tree own).layers
closing_fault block.Symbol above own t = symbol_fault (values own) t
closing_fault block.Layer above own t =
    layer_end_fault (last (text_in text.Name) (values own)) (last geometry_in (values own)) (last (text_in text.Data) (values own)) (map_tree above).layers t
closing_fault block.Feature above own t = if length (blocks block.Points own) == 0 then Some (fault_of MissingValue t) else None
closing_fault block.Points above own t = if length (vertices own) == 0 then Some (fault_of MissingValue t) else None
closing_fault _ above own t = None

-- the END of a block ends it where nothing is wrong
abbrev pub ends_unless : Option Fault → Result Saying Fault
ends_unless None = Ok Ends
ends_unless (Some f) = Err f

-- the block has as many inner blocks of this kind as a map may have; a class has one LABEL
abbrev pub is_full : Block → Entries → Bool
is_full block.Symbol own = nat_le MAX_SYMBOLS (length (blocks block.Symbol own))
is_full block.Layer own = nat_le MAX_LAYERS (length (blocks block.Layer own))
is_full block.Class own = nat_le MAX_CLASSES (length (blocks block.Class own))
is_full block.Style own = nat_le MAX_STYLES (length (blocks block.Style own))
is_full block.Label own = is_some (last_block block.Label own)
is_full block.Feature own = nat_le MAX_FEATURES (length (blocks block.Feature own))
is_full _ own = false

-- a keyword does what the table says of it in this block
abbrev pub role_says : Block → Option Role → Entries → Entries → TokenValue → Result Saying Fault
role_says b None above own t = refused UnknownWord t
role_says b (Some role.Closes) above own t = ends_unless (closing_fault b above own t)
role_says b (Some (role.Opens inner)) above own t = if is_full inner own then refused Limit t else Ok (Opens inner)
role_says b (Some (role.Takes expected)) above own t = Ok (Takes expected)

-- a token is the longitude of a vertex, for which the feature has room
abbrev pub vertex_says : Entries → Entries → TokenValue → Result Saying Fault
vertex_says above own t =
    if nat_le MAX_VERTICES (vertex_count above own) then refused Limit t
    else and_then (ok_or (coordinate_in t) (fault_of WrongValue t)) (λ x. Ok (Longitude x))

-- a token in POINTS is their END, or begins a vertex
abbrev pub points_say : Entries → Entries → TokenValue → Result Saying Fault
points_say above own t = if is_end t then ends_unless (closing_fault block.Points above own t) else vertex_says above own t

-- a token in METADATA and VALIDATION is their END, or a key, after which its value comes
abbrev pub pair_says : Block → TokenValue → Result Saying Fault
pair_says b t = if is_end t then Ok Ends else (if is_value t.shape then Ok (Takes (pair_expects b t.text)) else refused WrongValue t)

-- a token in a block that is skipped says nothing, unless it ends the block or opens another one
abbrev pub skipped_says : Option Role → Result Saying Fault
skipped_says (Some role.Closes) = Ok Ends
skipped_says (Some (role.Opens inner)) = Ok (Opens inner)
skipped_says _ = Ok Skips

-- what a token does in a block of this parent, if it is a keyword of the block: what a MAP says before a SYMBOL may let that be a disc
abbrev pub role_at : Block → Entries → TokenValue → Option Role
role_at b above t = option_and_then (role_in b (is_smooth (values above))) (keyword_at t)

-- what a token says in a block, of which the parent says this before it, and the block this so far
abbrev pub says : Block → Entries → Entries → TokenValue → Result Saying Fault
says block.Points above own t = points_say above own t
says block.Validation above own t = pair_says block.Validation t
says block.WebMetadata above own t = pair_says block.WebMetadata t
says block.LayerMetadata above own t = pair_says block.LayerMetadata t
says block.Projection above own t = skipped_says (role_at block.Projection above t)
says block.Skipped above own t = skipped_says (role_at block.Skipped above t)
says block.SkippedLabel above own t = skipped_says (role_at block.SkippedLabel above t)
says b above own t = role_says b (role_at b above t) above own t
