-- Service exceptions (OGC 06-042, 7.3; docs/WMS.md, "Exceptions").
use Rattle.std.specs.Prelude.{ℕ, List, ◌++◌, codes}
use Rattle.wmsquery.specs.declared.fault.Code.{Code}
use Rattle.wmsquery.specs.declared.fault.Code.TheVariants as code
use Rattle.wmsquery.specs.declared.fault.Parameter.{Parameter}
use Rattle.wmsquery.specs.declared.fault.Parameter.TheVariants as parameter
use Rattle.wmsquery.specs.declared.fault.WmsFault.{WmsFault}

-- the names of the codes, as documents write them
abbrev pub code_text : Code → List ℕ
code_text code.MissingParameterValue = codes "MissingParameterValue"
code_text code.InvalidParameterValue = codes "InvalidParameterValue"
code_text code.OperationNotSupported = codes "OperationNotSupported"
code_text code.LayerNotDefined = codes "LayerNotDefined"
code_text code.StyleNotDefined = codes "StyleNotDefined"
code_text code.InvalidCrs = codes "InvalidCRS"
code_text code.InvalidFormat = codes "InvalidFormat"
code_text code.LayerNotQueryable = codes "LayerNotQueryable"
code_text code.InvalidPoint = codes "InvalidPoint"
code_text code.CurrentUpdateSequence = codes "CurrentUpdateSequence"
code_text code.InvalidUpdateSequence = codes "InvalidUpdateSequence"

-- the names of the parameters
abbrev pub parameter_text : Parameter → List ℕ
parameter_text parameter.Service = codes "SERVICE"
parameter_text parameter.Request = codes "REQUEST"
parameter_text parameter.Version = codes "VERSION"
parameter_text parameter.Layers = codes "LAYERS"
parameter_text parameter.Styles = codes "STYLES"
parameter_text parameter.Crs = codes "CRS"
parameter_text parameter.Bbox = codes "BBOX"
parameter_text parameter.Width = codes "WIDTH"
parameter_text parameter.Height = codes "HEIGHT"
parameter_text parameter.Format = codes "FORMAT"
parameter_text parameter.Transparent = codes "TRANSPARENT"
parameter_text parameter.Bgcolor = codes "BGCOLOR"
parameter_text parameter.QueryLayers = codes "QUERY_LAYERS"
parameter_text parameter.InfoFormat = codes "INFO_FORMAT"
parameter_text parameter.FeatureCount = codes "FEATURE_COUNT"
parameter_text parameter.Column = codes "I"
parameter_text parameter.Row = codes "J"
parameter_text parameter.UpdateSequence = codes "UPDATESEQUENCE"

-- the document before the code
unfoldable pub report_head : List ℕ
report_head = codes "<?xml version=\"1.0\" encoding=\"UTF-8\"?>\n<ServiceExceptionReport version=\"1.3.0\" xmlns=\"http://www.opengis.net/ogc\">\n<ServiceException code=\""

-- the document after the parameter's name
unfoldable pub report_tail : List ℕ
report_tail = codes "</ServiceException>\n</ServiceExceptionReport>\n"

-- the document of a fault
abbrev pub report : WmsFault → List ℕ
report f = report_head ++ (code_text f.code ++ (codes "\">" ++ (parameter_text f.parameter ++ report_tail)))
