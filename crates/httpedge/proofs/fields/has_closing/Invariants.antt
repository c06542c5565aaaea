use Rattle.std.proofs.Common.{◌≡◌, false, map, take}
use Rattle.std.specs.List.{list_any}
use Rattle.httparse.specs.Spans.{header_bytes}
use Rattle.httpedge.specs.Fields.{says_close}
use Rattle.httpedge.proofs.fields.has_closing.Given as goal

abbrev pub invariant-loop-field : goal.invariant-loop-field
invariant-loop-field l = list_any says_close (map (header_bytes l.bytes) (take l.field-index l.fields)) ≡ false
