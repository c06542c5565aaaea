-- The operations of a web map service (OGC 06-042, 7.2 to 7.4).
use Rattle.std.specs.Prelude.{ℕ, List, codes}
use Rattle.operations.specs.declared.operation.Operation.{Operation}
use Rattle.operations.specs.declared.operation.Operation.TheVariants as operation

-- the name of an operation
unfoldable pub name_of : Operation → List ℕ
name_of operation.Capabilities = codes "GetCapabilities"
name_of operation.Map = codes "GetMap"
name_of operation.Information = codes "GetFeatureInfo"
