-- How each request stays within its map and the limits (docs/WMS.md, "Queries").
use Rattle.std.specs.Prelude.{ℕ, ◌≤◌, ◌<◌, All}
use Rattle.geom.specs.World.{IsExtent}
use Rattle.mapdefs.specs.declared.limits.TheConstants.{MAX_FEATURES}
use Rattle.wmsquery.specs.declared.request.InformationRequest.{InformationRequest}
use Rattle.wmsquery.specs.declared.request.MapRequest.{MapRequest}
use Rattle.wmsquery.specs.declared.request.Request.{Request}
use Rattle.wmsquery.specs.declared.request.Request.TheVariants as request

-- the layers of a picture are among so many, and its area is an extent of the world
pub record IsMapWithin (layers : ℕ) (r : MapRequest) : Type 0 where
  pub chosen : All (λ index. index < layers) r.chosen
  pub extent : IsExtent r.area

-- so are the layers whose features are requested; their count is one that a layer may have, and the pixel is in the picture
pub record IsInformationWithin (layers : ℕ) (r : InformationRequest) : Type 0 where
  pub map : IsMapWithin layers r.map
  pub queried : All (λ index. index < layers) r.layers
  pub some : 1 ≤ r.count
  pub most : r.count ≤ MAX_FEATURES
  pub column : r.column < r.map.width
  pub row : r.row < r.map.height

-- the same for any request
abbrev pub IsWithin : ℕ → Request → Type 0
IsWithin layers request.Capabilities = Unit {0}
IsWithin layers (request.Map r) = IsMapWithin layers r
IsWithin layers (request.Information r) = IsInformationWithin layers r
