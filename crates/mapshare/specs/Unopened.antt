-- The name of a sharing that nobody has opened.
use Rattle.std.specs.Prelude.{false, pos, []}
use Rattle.batches.specs.Batch.{State}

-- the state of an empty map, which names a sharing that nobody has opened
abbrev pub no_state : State
no_state = record {
  map = record {
    title = [];
    url = [];
    extent = record { minx = pos 0; miny = pos 0; maxx = pos 1; maxy = pos 1 };
    png = false;
    mercator = false;
    smoothing = 1;
    fonts = [];
    symbols = [];
    layers = [];
  };
  sequence = 0;
}
