-- The sides of two joined boxes are the lesser and the greater of theirs.
use Rattle.std.proofs.Common.{◌≡◌, ◌∙◌}
use Rattle.std.specs.Int.{int_max, int_min}
use Rattle.gridindex.proofs.Lesser.{greater, lesser}
use Rattle.layers.proofs.boxes.with_box.Goals as goal

pub returns : goal.returns
returns c =
    let west : c.min.result ≡ int_min c.minx.result c.minx-2.result = c.min.ensures ∙ lesser c.minx.result c.minx-2.result in
    let south : c.min-2.result ≡ int_min c.miny.result c.miny-2.result = c.min-2.ensures ∙ lesser c.miny.result c.miny-2.result in
    let east : c.max.result ≡ int_max c.maxx.result c.maxx-2.result = c.max.ensures ∙ greater c.maxx.result c.maxx-2.result in
    let north : c.max-2.result ≡ int_max c.maxy.result c.maxy-2.result = c.max-2.ensures ∙ greater c.maxy.result c.maxy-2.result in
    rw (
      west,
      south,
      east,
      north,
      c.minx.ensures,
      c.minx-2.ensures,
      c.miny.ensures,
      c.miny-2.ensures,
      c.maxx.ensures,
      c.maxx-2.ensures,
      c.maxy.ensures,
      c.maxy-2.ensures,
    ) at c.new.ensures
