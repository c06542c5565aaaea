-- What the open blocks say, and the drafts that keep it.
use Rattle.std.proofs.Common.{◌≡◌, List, [], ◌∷◌, length, map, refl, sym, ap, ◌∙◌, ◌++◌, append_assoc, Bool, true, false}
use Rattle.std.specs.Prelude.{ℕ, if◌then◌else◌, nat_le, ◌==◌, Option, None, Some, option_map, option_and_then, is_some, unwrap_or, Result, Ok, Err}
use Rattle.std.proofs.lemmas.List.{map-append, length-map}
use Rattle.maplex.specs.Token.{TokenValue}
use Rattle.mapdefs.specs.declared.layer.Geometry.{Geometry}
use Rattle.mapdefs.specs.declared.layer.Geometry.TheVariants.{Polygon}
use Rattle.mapdefs.specs.declared.limits.TheConstants.{MAX_SYMBOLS, MAX_LAYERS, MAX_CLASSES, MAX_STYLES, MAX_FEATURES}
use Rattle.mapwords.specs.declared.named.Named.{Named}
use Rattle.mapwords.specs.declared.role.Block.{Block}
use Rattle.mapwords.specs.declared.role.Block.TheVariants as block
use Rattle.mapwords.specs.declared.role.Role.{Role}
use Rattle.mapwords.specs.declared.role.Role.TheVariants as role
use Rattle.mapwords.specs.declared.table.TextKeyword.TheVariants as text
use Rattle.mapwords.specs.declared.value.Value.{Value}
use Rattle.maptree.specs.declared.draft.Drafts.{Drafts}
use Rattle.maptree.specs.declared.tree.LayerBody.{LayerBody}
use Rattle.mapwords.specs.declared.fault.Fault.{Fault}
use Rattle.mapwords.specs.declared.fault.ParseKind.TheVariants.{DuplicateName}
use Rattle.mapwords.specs.declared.keyword.Keyword.{Keyword}
use Rattle.mapwords.specs.declared.keyword.Keyword.TheVariants as keyword
use Rattle.maptree.specs.declared.tree.LayerTree.{LayerTree}
use Rattle.maptree.specs.declared.tree.SymbolTree.{SymbolTree}
use Rattle.maptree.specs.Data.{lacks_room, table_fault, with_named_file}
use Rattle.maptree.specs.Draft as draft
use Rattle.maptree.specs.End.{layer_with, finished_layer, ends}
use Rattle.maptree.specs.End as end
use Rattle.maptree.specs.Outline.{map_fault}
use Rattle.maptree.specs.Symbol.{no_name, symbol_fault, symbol_with}
use Rattle.maptree.specs.Entries.{Entries, Nothing, Inside, with_block, values, blocks, last_block, vertices}
use Rattle.mapdefs.specs.Outcome.{and_then}
use Rattle.maptree.specs.Name.{is_taken}
use Rattle.maptree.specs.Says.{layer_end_fault, closing_fault, is_full}
use Rattle.mapwords.specs.Table.{map_role, web_role, symbol_role, smooth_symbol_role, layer_role, class_role, style_role, label_role, feature_role, skipped_role, skipped_label_role, end_role, role_in, role_of}
use Rattle.maptree.specs.Tree.{class_tree, feature_tree, layer_body, layer_tree, symbol_tree, files_used, map_tree}
use Rattle.mapvalues.specs.Values.{geometry_in, last, text_in, words_in}

-- what the open blocks say so far; a block that isn't open says nothing
pub record OpenBlocks : Type 0 where
  pub map : Entries
  pub web : Entries
  pub web_metadata : Entries
  pub symbol : Entries
  pub layer : Entries
  pub layer_metadata : Entries
  pub class : Entries
  pub style : Entries
  pub label : Entries
  pub feature : Entries
  pub points : Entries

-- the drafts that keep it
abbrev pub drafts_of : OpenBlocks → Drafts
drafts_of o = record {
  map = record (map_tree o.map) { values = values o.web_metadata ++ (values o.web ++ values o.map) };
  symbol = values o.symbol;
  layer = record (layer_body o.layer) { values = values o.layer_metadata ++ values o.layer };
  class = class_tree o.class;
  style = values o.style;
  label = values o.label;
  feature = record {
    parts = record { whole = map vertices (blocks block.Points o.feature); next = vertices o.points };
    text = last (words_in text.Text) (values o.feature);
    items = last (words_in text.Items) (values o.feature);
  };
}

-- a block says this, and none is open inside it
abbrev pub only_map : Entries → OpenBlocks
only_map own = record {
  map = own;
  web = Nothing;
  web_metadata = Nothing;
  symbol = Nothing;
  layer = Nothing;
  layer_metadata = Nothing;
  class = Nothing;
  style = Nothing;
  label = Nothing;
  feature = Nothing;
  points = Nothing;
}

-- a block says this, within the blocks round it, and none is open inside it
abbrev pub in_block : Block → Entries → OpenBlocks → OpenBlocks
in_block block.Map own o = only_map own
in_block block.Symbol own o = record (only_map o.map) { symbol = own }
in_block block.Web own o = record (only_map o.map) { web = own }
in_block block.WebMetadata own o = record (only_map o.map) { web = o.web; web_metadata = own }
in_block block.Layer own o = record (only_map o.map) { layer = own }
in_block block.LayerMetadata own o = record (only_map o.map) { layer = o.layer; layer_metadata = own }
in_block block.Class own o = record (only_map o.map) { layer = o.layer; class = own }
in_block block.Style own o = record (only_map o.map) { layer = o.layer; class = o.class; style = own }
in_block block.Label own o = record (only_map o.map) { layer = o.layer; class = o.class; label = own }
in_block block.Feature own o = record (only_map o.map) { layer = o.layer; feature = own }
in_block block.Points own o = record (only_map o.map) { layer = o.layer; feature = o.feature; points = own }
in_block _ own o = o

-- what the parent of a block says; of a block that isn't kept it is `up`
abbrev pub above : Block → Entries → OpenBlocks → Entries
above block.Map up o = Nothing
above block.Layer up o = o.map
above block.Class up o = o.layer
above block.Style up o = o.class
above block.Feature up o = o.layer
above block.Points up o = o.feature
above block.Symbol up o = o.map
above block.Web up o = o.map
above block.WebMetadata up o = o.web
above block.LayerMetadata up o = o.layer
above block.Label up o = o.class
above _ up o = up

-- after the END of a block its parent has it
abbrev pub after_end : Block → Entries → OpenBlocks → OpenBlocks
after_end block.Map own o = in_block block.Map own o
after_end block.Symbol own o = in_block block.Map (Inside block.Symbol own o.map) o
after_end block.Layer own o = in_block block.Map (Inside block.Layer own o.map) o
after_end block.Class own o = in_block block.Layer (Inside block.Class own o.layer) o
after_end block.Style own o = in_block block.Class (Inside block.Style own o.class) o
after_end block.Feature own o = in_block block.Layer (Inside block.Feature own o.layer) o
after_end block.Points own o = in_block block.Feature (Inside block.Points own o.feature) o
after_end block.Web own o = in_block block.Map (Inside block.Web own o.map) o
after_end block.WebMetadata own o = in_block block.Web (Inside block.WebMetadata own o.web) o
after_end block.LayerMetadata own o = in_block block.Layer (Inside block.LayerMetadata own o.layer) o
after_end block.Label own o = in_block block.Class (Inside block.Label own o.class) o
after_end _ own o = o

-- a block that opens in another is inside of it, and says nothing yet
pub record Nests (c b : Block) : Type 0 where
  pub opened : (own : Entries) (o : OpenBlocks) → in_block c Nothing (in_block b own o) ≡ in_block b own o
  pub parent : (own : Entries) (o : OpenBlocks) → above c own (in_block b own o) ≡ own
  pub ended : (inner own : Entries) (o : OpenBlocks) → after_end c inner (in_block b own o) ≡ in_block b (with_block c inner own) o

-- where a keyword of a block opens a block, that one is inside of it
abbrev pub Fits : Block → Option Role → Type 0
Fits b None = Unit {0}
Fits b (Some role.Closes) = Unit {0}
Fits b (Some (role.Opens c)) = Nests c b
Fits b (Some (role.Takes e)) = Unit {0}

nests : {c b : Block} → ((own : Entries) (o : OpenBlocks) → in_block c Nothing (in_block b own o) ≡ in_block b own o) → ((own : Entries) (o : OpenBlocks) → above c own (in_block b own o) ≡ own) → ((inner own : Entries) (o : OpenBlocks) → after_end c inner (in_block b own o) ≡ in_block b (with_block c inner own) o) → Nests c b
nests p q r = record { opened = p; parent = q; ended = r }

fits-map : (k : Keyword) → Fits block.Map (map_role k)
fits-map keyword.Web = nests (λ own o. refl) (λ own o. refl) (λ inner own o. refl)
fits-map keyword.Symbol = nests (λ own o. refl) (λ own o. refl) (λ inner own o. refl)
fits-map keyword.Layer = nests (λ own o. refl) (λ own o. refl) (λ inner own o. refl)
fits-map keyword.Legend = nests (λ own o. refl) (λ own o. refl) (λ inner own o. refl)
fits-map keyword.OutputFormat = nests (λ own o. refl) (λ own o. refl) (λ inner own o. refl)
fits-map keyword.QueryMap = nests (λ own o. refl) (λ own o. refl) (λ inner own o. refl)
fits-map keyword.Reference = nests (λ own o. refl) (λ own o. refl) (λ inner own o. refl)
fits-map keyword.ScaleBar = nests (λ own o. refl) (λ own o. refl) (λ inner own o. refl)
fits-map keyword.Projection = nests (λ own o. refl) (λ own o. refl) (λ inner own o. refl)
fits-map _ = tt

fits-web : (k : Keyword) → Fits block.Web (web_role k)
fits-web keyword.Metadata = nests (λ own o. refl) (λ own o. refl) (λ inner own o. refl)
fits-web keyword.Validation = nests (λ own o. refl) (λ own o. refl) (λ inner own o. refl)
fits-web _ = tt

fits-symbol : (k : Keyword) → Fits block.Symbol (symbol_role k)
fits-symbol keyword.End = tt
fits-symbol _ = tt

fits-smooth_symbol : (k : Keyword) → Fits block.Symbol (smooth_symbol_role k)
fits-smooth_symbol keyword.End = tt
fits-smooth_symbol _ = tt

fits-layer : (k : Keyword) → Fits block.Layer (layer_role k)
fits-layer keyword.Metadata = nests (λ own o. refl) (λ own o. refl) (λ inner own o. refl)
fits-layer keyword.Class = nests (λ own o. refl) (λ own o. refl) (λ inner own o. refl)
fits-layer keyword.Feature = nests (λ own o. refl) (λ own o. refl) (λ inner own o. refl)
fits-layer keyword.Projection = nests (λ own o. refl) (λ own o. refl) (λ inner own o. refl)
fits-layer keyword.Validation = nests (λ own o. refl) (λ own o. refl) (λ inner own o. refl)
fits-layer _ = tt

fits-class : (k : Keyword) → Fits block.Class (class_role k)
fits-class keyword.Style = nests (λ own o. refl) (λ own o. refl) (λ inner own o. refl)
fits-class keyword.Label = nests (λ own o. refl) (λ own o. refl) (λ inner own o. refl)
fits-class _ = tt

fits-style : (k : Keyword) → Fits block.Style (style_role k)
fits-style keyword.End = tt
fits-style _ = tt

fits-label : (k : Keyword) → Fits block.Label (label_role k)
fits-label keyword.Style = nests (λ own o. refl) (λ own o. refl) (λ inner own o. refl)
fits-label _ = tt

fits-feature : (k : Keyword) → Fits block.Feature (feature_role k)
fits-feature keyword.Points = nests (λ own o. refl) (λ own o. refl) (λ inner own o. refl)
fits-feature _ = tt

fits-skipped : (k : Keyword) → Fits block.Skipped (skipped_role k)
fits-skipped keyword.Label = nests (λ own o. refl) (λ own o. refl) (λ inner own o. refl)
fits-skipped keyword.Metadata = nests (λ own o. refl) (λ own o. refl) (λ inner own o. refl)
fits-skipped keyword.Validation = nests (λ own o. refl) (λ own o. refl) (λ inner own o. refl)
fits-skipped _ = tt

fits-skipped_label : (k : Keyword) → Fits block.SkippedLabel (skipped_label_role k)
fits-skipped_label keyword.Label = nests (λ own o. refl) (λ own o. refl) (λ inner own o. refl)
fits-skipped_label keyword.Metadata = nests (λ own o. refl) (λ own o. refl) (λ inner own o. refl)
fits-skipped_label keyword.Validation = nests (λ own o. refl) (λ own o. refl) (λ inner own o. refl)
fits-skipped_label keyword.Style = nests (λ own o. refl) (λ own o. refl) (λ inner own o. refl)
fits-skipped_label _ = tt

fits-end : (b : Block) (k : Keyword) → Fits b (end_role k)
fits-end b keyword.End = tt
fits-end b _ = tt

fits : (b : Block) (k : Keyword) → Fits b (role_of b k)
fits block.Map k = fits-map k
fits block.Layer k = fits-layer k
fits block.Class k = fits-class k
fits block.Style k = fits-style k
fits block.Web k = fits-web k
fits block.Symbol k = fits-symbol k
fits block.Label k = fits-label k
fits block.Feature k = fits-feature k
fits block.Skipped k = fits-skipped k
fits block.SkippedLabel k = fits-skipped_label k
fits block.Points k = fits-end block.Points k
fits block.Validation k = fits-end block.Validation k
fits block.WebMetadata k = fits-end block.WebMetadata k
fits block.LayerMetadata k = fits-end block.LayerMetadata k
fits block.Projection k = fits-end block.Projection k

pub fits-option : (b : Block) (k : Option Keyword) → Fits b (option_and_then (role_of b) k)
fits-option b None = tt
fits-option b (Some k) = fits b k

-- a SYMBOL of a map that is smoothed, or isn't
fits-symbol_in : (smooth : Bool) (k : Keyword) → Fits block.Symbol (role_in block.Symbol smooth k)
fits-symbol_in true k = fits-smooth_symbol k
fits-symbol_in false k = fits-symbol k

pub fits-symbol_option : (smooth : Bool) (k : Option Keyword) → Fits block.Symbol (option_and_then (role_in block.Symbol smooth) k)
fits-symbol_option smooth None = tt
fits-symbol_option smooth (Some k) = fits-symbol_in smooth k

-- a block that may open inside one that is skipped has no limit
abbrev pub Frees : Option Role → Type 0
Frees (Some (role.Opens c)) = (own : Entries) → is_full c own ≡ false
Frees _ = Unit {0}

frees-skipped : (k : Keyword) → Frees (skipped_role k)
frees-skipped keyword.Label = λ own. refl
frees-skipped keyword.Metadata = λ own. refl
frees-skipped keyword.Validation = λ own. refl
frees-skipped _ = tt

frees-skipped_label : (k : Keyword) → Frees (skipped_label_role k)
frees-skipped_label keyword.Label = λ own. refl
frees-skipped_label keyword.Metadata = λ own. refl
frees-skipped_label keyword.Validation = λ own. refl
frees-skipped_label keyword.Style = λ own. refl
frees-skipped_label _ = tt

frees-end : (k : Keyword) → Frees (end_role k)
frees-end keyword.End = tt
frees-end _ = tt

-- in each of these blocks
pub projection-frees : (k : Option Keyword) → Frees (option_and_then end_role k)
projection-frees None = tt
projection-frees (Some k) = frees-end k

pub skipped-frees : (k : Option Keyword) → Frees (option_and_then skipped_role k)
skipped-frees None = tt
skipped-frees (Some k) = frees-skipped k

pub label-frees : (k : Option Keyword) → Frees (option_and_then skipped_label_role k)
label-frees None = tt
label-frees (Some k) = frees-skipped_label k

is_some-map : (label : Option Entries) → is_some (option_map values label) ≡ is_some label
is_some-map (Some own) = refl
is_some-map None = refl

-- there is as much room for a further block as its parent says
pub same-room : (b : Block) (up own : Entries) (o : OpenBlocks) → draft.is_full b (drafts_of (in_block b own o)) ≡ is_full b (above b up o)
same-room block.Symbol up own o = ap (nat_le MAX_SYMBOLS) (length-map (blocks block.Symbol o.map) symbol_tree)
same-room block.Layer up own o = ap (nat_le MAX_LAYERS) (length-map (blocks block.Layer o.map) layer_tree)
same-room block.Class up own o = ap (nat_le MAX_CLASSES) (length-map (blocks block.Class o.layer) class_tree)
same-room block.Style up own o = ap (nat_le MAX_STYLES) (length-map (blocks block.Style o.class) values)
same-room block.Feature up own o = ap (nat_le MAX_FEATURES) (length-map (blocks block.Feature o.layer) feature_tree)
same-room block.Label up own o = is_some-map (last_block block.Label o.class)
same-room _ up own o = refl

-- there is as much room for a further font as its MAP says
pub same-names : (b : Block) (own : Entries) (o : OpenBlocks) → lacks_room b (drafts_of (in_block b own o)).map.files ≡ lacks_room b (files_used own)
same-names block.Map own o = refl
same-names _ own o = refl

-- what is given where nothing is wrong
abbrev pub unless_fault : {A : Type 0} → Option Fault → A → Result A Fault
unless_fault None a = Ok a
unless_fault (Some f) a = Err f

module _ (earlier : List LayerTree) (t : TokenValue) (body : LayerBody) (with_layer : LayerTree → Drafts) where
  taken-ends : (name : Named) (geometry : Geometry) (taken : Bool) (table : Option Fault) →
      and_then (if taken then Err (record { line = name.line; kind = DuplicateName }) else end.unless_fault table (layer_with name geometry body)) (λ made. Ok (with_layer made))
      ≡ unless_fault (if taken then Some (record { line = name.line; kind = DuplicateName }) else table) (with_layer (layer_with name geometry body))
  taken-ends name geometry true table = refl
  taken-ends name geometry false None = refl
  taken-ends name geometry false (Some f) = refl

  layer-ends : (name : Option Named) (geometry : Option Geometry) →
      and_then (finished_layer name geometry body earlier t) (λ made. Ok (with_layer made))
      ≡ unless_fault (layer_end_fault name geometry (last (text_in text.Data) body.values) earlier t) (with_layer (layer_with (unwrap_or name no_name) (unwrap_or geometry Polygon) body))
  layer-ends (Some name) (Some geometry) = taken-ends name geometry (is_taken name.text earlier) (table_fault geometry (last (text_in text.Data) body.values))
  layer-ends (Some name) None = refl
  layer-ends None (Some geometry) = refl
  layer-ends None None = refl

-- where there is a fault the drafts are refused
unless-same : (fault : Option Fault) (d : Drafts) → end.unless_fault fault d ≡ unless_fault fault d
unless-same None d = refl
unless-same (Some f) d = refl

symbol-ends : (with_symbol : SymbolTree → Drafts) (symbol : SymbolTree) (fault : Option Fault) →
    and_then (end.unless_fault fault symbol) (λ made. Ok (with_symbol made)) ≡ unless_fault fault (with_symbol symbol)
symbol-ends with_symbol symbol None = refl
symbol-ends with_symbol symbol (Some f) = refl

given-unless : {A : Type 0} (none : Bool) (f : Fault) (a b : A) → a ≡ b → (if none then Err f else Ok a) ≡ unless_fault (if none then Some f else None) b
given-unless true f a b p = refl
given-unless false f a b p = ap (λ x. Ok x) p

-- the METADATA of a WEB speaks for the WEB
pub metadata-ends : (own : Entries) (o : OpenBlocks) → drafts_of (in_block block.WebMetadata own o) ≡ drafts_of (after_end block.WebMetadata own o)
metadata-ends own o =
    ap (λ (given : List Value). record (drafts_of (in_block block.Web o.web o)) { map = record (map_tree o.map) { values = given } })
    (sym (append_assoc (values own) (values o.web) (values o.map)))

-- the END of a block, in drafts and by what it says
pub same-end : (b : Block) (up own : Entries) (o : OpenBlocks) (t : TokenValue) → ends b (drafts_of (in_block b own o)) t ≡ unless_fault (closing_fault b (above b up o) own t) (drafts_of (after_end b own o))
same-end block.Map up own o t = unless-same (map_fault (map_tree own).values (map_tree own).symbols (map_tree own).layers) (drafts_of (in_block block.Map own o))
same-end block.Symbol up own o t =
    symbol-ends (λ symbol. record (drafts_of (in_block block.Map o.map o)) { map = record (map_tree o.map) { symbols = (map_tree o.map).symbols ++ symbol ∷ []; files = with_named_file symbol.image (files_used o.map) } })
    (symbol_with (values own)) (symbol_fault (values own) t)
    ∙ ap (λ (symbols : List SymbolTree). unless_fault (closing_fault block.Symbol o.map own t) (record (drafts_of (in_block block.Map o.map o)) { map = record (map_tree o.map) { symbols = symbols; files = with_named_file (symbol_tree own).image (files_used o.map) } }))
    (sym (map-append symbol_tree (blocks block.Symbol o.map) (own ∷ [])))
same-end block.Layer up own o t =
    layer-ends (map_tree o.map).layers t (drafts_of (in_block block.Layer own o)).layer
    (λ layer. record (drafts_of (in_block block.Map o.map o)) { map = record (map_tree o.map) { layers = (map_tree o.map).layers ++ layer ∷ []; files = with_named_file layer.table (files_used o.map) } })
    (last (text_in text.Name) (values own)) (last geometry_in (values own))
    ∙ ap (λ (layers : List LayerTree). unless_fault (closing_fault block.Layer o.map own t) (record (drafts_of (in_block block.Map o.map o)) { map = record (map_tree o.map) { layers = layers; files = with_named_file (last (text_in text.Data) (values own)) (files_used o.map) } }))
    (sym (map-append layer_tree (blocks block.Layer o.map) (own ∷ [])))
same-end block.Class up own o t = rw (map-append class_tree (blocks block.Class o.layer) (own ∷ [])) refl
same-end block.Style up own o t = rw (map-append values (blocks block.Style o.class) (own ∷ [])) refl
same-end block.Feature up own o t =
    rw (map-append feature_tree (blocks block.Feature o.layer) (own ∷ []), length-map (blocks block.Points own) vertices)
    (given-unless (length (blocks block.Points own) == 0) _ _ _ refl)
same-end block.Points up own o t =
    rw (map-append vertices (blocks block.Points o.feature) (own ∷ []))
    (given-unless (length (vertices own) == 0) _ _ _ refl)
same-end block.WebMetadata up own o t = ap (λ d. Ok d) (metadata-ends own o)
same-end _ up own o t = refl
