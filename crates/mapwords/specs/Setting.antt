-- Keys and their values: METADATA and PROCESSING (docs/MAPFILE.md, "Keys and values").
use Rattle.std.specs.Prelude.{ℕ, Bool, ◌==◌, nat_lt, if◌then◌else◌, List, length, codes, Option, None, Some, Result, Ok}
use Rattle.std.specs.List.{slice_split, position_or_len, before_first, after_first}
use Rattle.maplex.specs.Token.{TokenValue}
use Rattle.mapdefs.specs.Name.{is_same_name}
use Rattle.mapdefs.specs.declared.limits.TheConstants.{MAX_ITEMS}
use Rattle.mapwords.specs.declared.role.Block.{Block}
use Rattle.mapwords.specs.declared.role.Block.TheVariants as block
use Rattle.mapwords.specs.declared.role.Expected.{Expected}
use Rattle.mapwords.specs.declared.role.Expected.TheVariants as expected
use Rattle.mapwords.specs.declared.table.TextKeyword.TheVariants as text
use Rattle.mapwords.specs.declared.fault.Fault.{Fault}
use Rattle.mapwords.specs.declared.fault.ParseKind.TheVariants.{Limit}
use Rattle.mapwords.specs.declared.value.Value.TheVariants as value
use Rattle.mapwords.specs.declared.value.ValueStep.{ValueStep}
use Rattle.mapwords.specs.declared.value.ValueStep.TheVariants.{Whole}
use Rattle.mapwords.specs.Fault.{refused}
use Rattle.mapwords.specs.Rule.{is_comma}

-- a WEB's METADATA gives the title and the address of the service; other keys have no effect
abbrev pub web_expects : List ℕ → Expected
web_expects key =
    if is_same_name key (codes "wms_title") then expected.Text text.WmsTitle
    else if is_same_name key (codes "ows_title") then expected.Text text.OwsTitle
    else if is_same_name key (codes "wms_onlineresource") then expected.Text text.WmsOnlineResource
    else if is_same_name key (codes "ows_onlineresource") then expected.Text text.OwsOnlineResource
    else expected.Unused 0

-- a LAYER's METADATA gives its title
abbrev pub layer_expects : List ℕ → Expected
layer_expects key =
    if is_same_name key (codes "wms_title") then expected.Text text.WmsTitle
    else if is_same_name key (codes "ows_title") then expected.Text text.OwsTitle
    else expected.Unused 0

-- what a key takes in a block of keys and values
abbrev pub pair_expects : Block → List ℕ → Expected
pair_expects block.WebMetadata key = web_expects key
pair_expects block.LayerMetadata key = layer_expects key
pair_expects _ key = expected.Unused 0

-- a byte is an equals sign
abbrev pub is_equals : ℕ → Bool
is_equals byte = byte == 61

-- the key and the value of a setting are before and after its first equals sign
abbrev pub setting_in : List ℕ → Option (List ℕ × List ℕ)
setting_in text =
    if nat_lt (position_or_len is_equals text) (length text) then Some (before_first is_equals text, after_first is_equals text)
    else None

-- the names of a layer's items, of which it may have so many
abbrev pub names_step : List (List ℕ) → TokenValue → Result ValueStep Fault
names_step names t = if nat_lt MAX_ITEMS (length names) then refused Limit t else Ok (Whole (value.Items names))

-- ITEMS has the names of the items between commas, CSV_X and CSV_Y the columns of tables; other keys have no effect
abbrev pub keyed_step : List ℕ → List ℕ → TokenValue → Result ValueStep Fault
keyed_step key setting t =
    if is_same_name key (codes "ITEMS") then names_step (slice_split is_comma setting) t
    else if is_same_name key (codes "CSV_X") then Ok (Whole (value.Text text.CsvX (record { text = setting; line = t.line })))
    else if is_same_name key (codes "CSV_Y") then Ok (Whole (value.Text text.CsvY (record { text = setting; line = t.line })))
    else Ok (Whole value.Nothing)

-- a setting without an equals sign has no effect
abbrev pub parted_step : Option (List ℕ × List ℕ) → TokenValue → Result ValueStep Fault
parted_step None t = Ok (Whole value.Nothing)
parted_step (Some parts) t = keyed_step parts.0 parts.1 t

-- a PROCESSING takes a setting
abbrev pub setting_step : TokenValue → Result ValueStep Fault
setting_step t = parted_step (setting_in t.text) t
