-- How one token is read, by its context (docs/MAPFILE.md, "Blocks and words").
use Rattle.std.specs.Prelude.{ℤ, if◌then◌else◌, nat_le, Option, None, Some, option_and_then, Result, Ok, Err}
use Rattle.std.specs.Option.{ok_or}
use Rattle.maplex.specs.Token.{TokenValue}
use Rattle.mapdefs.specs.declared.limits.TheConstants.{MAX_VERTICES}
use Rattle.mapwords.specs.declared.role.Block.{Block}
use Rattle.mapwords.specs.declared.role.Block.TheVariants as block
use Rattle.mapwords.specs.declared.role.Expected.{Expected}
use Rattle.mapwords.specs.declared.role.Role.{Role}
use Rattle.mapwords.specs.declared.role.Role.TheVariants.{Closes, Opens, Takes}
use Rattle.maptree.specs.declared.context.Context.{Context}
use Rattle.maptree.specs.declared.context.Context.TheVariants.{Keywords, Values, Latitude}
use Rattle.maptree.specs.declared.context.Move.{Move}
use Rattle.maptree.specs.declared.context.Move.TheVariants.{GoesOn, Enters, Leaves}
use Rattle.mapwords.specs.declared.value.ValueStep.{ValueStep}
use Rattle.mapwords.specs.declared.value.ValueStep.TheVariants.{More, Whole}
use Rattle.maptree.specs.declared.draft.Drafts.{Drafts}
use Rattle.mapwords.specs.declared.fault.Fault.{Fault}
use Rattle.mapwords.specs.declared.fault.ParseKind.TheVariants.{UnknownWord, WrongValue, MissingValue, Limit}
use Rattle.mapwords.specs.Fault.{fault_of, refused}
use Rattle.mapdefs.specs.Outcome.{and_then}
use Rattle.mapwords.specs.Given.{given_step, is_beyond}
use Rattle.mapwords.specs.Keyword.{keyword_at, is_end}
use Rattle.mapwords.specs.Setting.{pair_expects}
use Rattle.mapwords.specs.Table.{role_in, role_of}
use Rattle.mapwords.specs.Value.{font_name_at, is_value, coordinate_in}
use Rattle.maptree.specs.Smoothing.{is_smooth}
use Rattle.maptree.specs.Parts.{vertex_count, with_vertex}
use Rattle.maptree.specs.Data.{lacks_room}
use Rattle.maptree.specs.Draft.{with_value, is_full}
use Rattle.maptree.specs.End.{ends}

-- an END leaves its block, for which there is room, as there was where it opened
abbrev pub read_end : Block → Drafts → TokenValue → Result (Move × Drafts) Fault
read_end b d t = if is_full b d then refused Limit t else and_then (ends b d t) (λ e. Ok (Leaves, e))

-- a keyword does what its role is: it ends its block, opens an inner one for which there is room, or takes values
abbrev pub read_role : Block → Option Role → Drafts → TokenValue → Result (Move × Drafts) Fault
read_role b None d t = refused UnknownWord t
read_role b (Some Closes) d t = read_end b d t
read_role b (Some (Opens inner)) d t = if is_full inner d then refused Limit t else Ok (Enters (Keywords inner), d)
read_role b (Some (Takes expected)) d t = Ok (Enters (Values b expected), d)

-- a token is read as a keyword of a block
abbrev pub read_keyword : Block → Drafts → TokenValue → Result (Move × Drafts) Fault
read_keyword b d t = read_role b (option_and_then (role_in b (is_smooth d.map.values)) (keyword_at t)) d t

-- a whole value is noted, and of another one more is expected
abbrev pub note_step : Block → Result ValueStep Fault → Drafts → Result (Move × Drafts) Fault
note_step b (Err f) d = Err f
note_step b (Ok (More next)) d = Ok (GoesOn (Values b next), d)
note_step b (Ok (Whole value)) d = Ok (Leaves, with_value b value d)

-- a token is read as a value of a block, unless it is the key of a font that the MAP has no room for
abbrev pub read_value : Block → Expected → Drafts → TokenValue → Result (Move × Drafts) Fault
read_value b expected d t =
    note_step b (given_step (is_beyond (lacks_room b d.map.files) (font_name_at expected t)) expected t) d

-- the coordinate that a token is, of a vertex that the feature must have room for
abbrev pub coordinate_at : Drafts → TokenValue → Result ℤ Fault
coordinate_at d t =
    if nat_le MAX_VERTICES (vertex_count d.feature.parts) then refused Limit t
    else ok_or (coordinate_in t) (fault_of WrongValue t)

-- a token is read in POINTS: their END, or the longitude of a vertex
abbrev pub read_longitude : Drafts → TokenValue → Result (Move × Drafts) Fault
read_longitude d t =
    if is_end t then read_end block.Points d t
    else and_then (coordinate_at d t) (λ x. Ok (GoesOn (Latitude x), d))

-- the feature has a further vertex
abbrev pub adds_vertex : ℤ → ℤ → Drafts → Drafts
adds_vertex x y d = record d { feature = record d.feature { parts = with_vertex (record { x = x; y = y }) d.feature.parts } }

-- a token is read as the latitude of a vertex
abbrev pub read_latitude : ℤ → Drafts → TokenValue → Result (Move × Drafts) Fault
read_latitude x d t =
    if is_end t then refused MissingValue t
    else and_then (coordinate_at d t) (λ y. Ok (GoesOn (Keywords block.Points), adds_vertex x y d))

-- a token is skipped, unless it ends the block or opens another one
abbrev pub skip : Block → Option Role → Drafts → Result (Move × Drafts) Fault
skip b (Some Closes) d = Ok (Leaves, d)
skip b (Some (Opens inner)) d = Ok (Enters (Keywords inner), d)
skip b _ d = Ok (GoesOn (Keywords b), d)

-- a token is read in METADATA or VALIDATION: its END, or a key
abbrev pub read_pair : Block → Drafts → TokenValue → Result (Move × Drafts) Fault
read_pair b d t =
    if is_end t then Ok (Leaves, d)
    else (if is_value t.shape then Ok (Enters (Values b (pair_expects b t.text)), d) else refused WrongValue t)

-- a token is read in its context: how reading goes on, and what was read of the open blocks
abbrev pub read_token : Context → Drafts → TokenValue → Result (Move × Drafts) Fault
read_token (Keywords block.Points) d t = read_longitude d t
read_token (Keywords block.Validation) d t = read_pair block.Validation d t
read_token (Keywords block.WebMetadata) d t = read_pair block.WebMetadata d t
read_token (Keywords block.LayerMetadata) d t = read_pair block.LayerMetadata d t
read_token (Keywords block.Projection) d t = skip block.Projection (option_and_then (role_of block.Projection) (keyword_at t)) d
read_token (Keywords block.Skipped) d t = skip block.Skipped (option_and_then (role_of block.Skipped) (keyword_at t)) d
read_token (Keywords block.SkippedLabel) d t = skip block.SkippedLabel (option_and_then (role_of block.SkippedLabel) (keyword_at t)) d
read_token (Keywords b) d t = read_keyword b d t
read_token (Values b expected) d t = read_value b expected d t
read_token (Latitude x) d t = read_latitude x d t
