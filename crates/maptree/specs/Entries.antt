-- What a block says (docs/MAPFILE.md, "Blocks and words").
use Rattle.std.specs.Prelude.{ℕ, ◌+◌, ◌==◌, if◌then◌else◌, Bool, true, false, List, [], ◌∷◌, ◌++◌, length, map, sum_by, Option, None, Some}
use Rattle.geom.specs.World.{Place}
use Rattle.mapwords.specs.declared.role.Block.{Block}
use Rattle.mapwords.specs.declared.role.Block.TheVariants as block
use Rattle.mapwords.specs.declared.table.ColourKeyword.TheVariants.{ImageColor}
use Rattle.mapwords.specs.declared.value.Value.{Value}
use Rattle.mapwords.specs.declared.value.Value.TheVariants as value

-- the entries of a block, the last one first: a keyword with its value, a vertex, or an inner block with its own entries
pub data Entries : Type 0 where
  Nothing : Entries
  Said : Value → Entries → Entries
  Vertex : Place → Entries → Entries
  Inside : Block → Entries → Entries → Entries

-- a value has an effect
abbrev pub has_effect : Value → Bool
has_effect (value.Colour ImageColor colour) = false
has_effect value.Nothing = false
has_effect given = true

-- a value that was given; one without effect makes no entry
abbrev pub with_said : Value → Entries → Entries
with_said given own = if has_effect given then Said given own else own

-- an inner block that was read; one without effect makes no entry
abbrev pub with_block : Block → Entries → Entries → Entries
with_block block.Validation inner own = own
with_block block.Projection inner own = own
with_block block.Skipped inner own = own
with_block block.SkippedLabel inner own = own
with_block b inner own = Inside b inner own

-- what a WEB or a METADATA says, the block round it says
abbrev pub speaks_for_parent : Block → Bool
speaks_for_parent block.Web = true
speaks_for_parent block.WebMetadata = true
speaks_for_parent block.LayerMetadata = true
speaks_for_parent _ = false

-- the values that a block was given, the last one first
abbrev pub values : Entries → List Value
values Nothing = []
values (Said given before) = given ∷ values before
values (Vertex vertex before) = values before
values (Inside b inner before) = if speaks_for_parent b then values inner ++ values before else values before

-- a number for each kind of block
abbrev pub block_number : Block → ℕ
block_number block.Map = 0
block_number block.Layer = 1
block_number block.Class = 2
block_number block.Style = 3
block_number block.Feature = 4
block_number block.Points = 5
block_number block.Validation = 6
block_number block.Projection = 7
block_number block.Skipped = 8
block_number block.SkippedLabel = 9
block_number block.Label = 10
block_number block.Web = 11
block_number block.WebMetadata = 12
block_number block.LayerMetadata = 13
block_number block.Symbol = 14

-- the inner blocks of a kind, in their order
abbrev pub blocks : Block → Entries → List Entries
blocks b Nothing = []
blocks b (Said given before) = blocks b before
blocks b (Vertex vertex before) = blocks b before
blocks b (Inside c inner before) =
    if block_number b == block_number c then blocks b before ++ inner ∷ [] else blocks b before

-- the last inner block of a kind
abbrev pub last_block : Block → Entries → Option Entries
last_block b Nothing = None
last_block b (Said given before) = last_block b before
last_block b (Vertex vertex before) = last_block b before
last_block b (Inside c inner before) = if block_number b == block_number c then Some inner else last_block b before

-- the vertices, in their order
abbrev pub vertices : Entries → List Place
vertices Nothing = []
vertices (Said given before) = vertices before
vertices (Vertex vertex before) = vertices before ++ vertex ∷ []
vertices (Inside b inner before) = vertices before

-- how many vertices a FEATURE has with those of its open POINTS
abbrev pub vertex_count : Entries → Entries → ℕ
vertex_count feature points = sum_by length (map vertices (blocks block.Points feature)) + length (vertices points)
