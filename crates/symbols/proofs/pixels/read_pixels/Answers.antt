use Rattle.std.proofs.Common.{◌∙◌, ◌*◌, length, take, ap, arith}
use Rattle.std.proofs.lemmas.List.{length-take}
use Rattle.symbols.proofs.Capping.{colours-count}
use Rattle.symbols.proofs.pixels.read_pixels.Goals as goal

pub new-requires : goal.new-requires
new-requires c =
    let count = 3 * (c.args.width * c.args.height) in
    record {
      some_columns = c.requires.width;
      some_rows = c.requires.height;
      columns = c.if-width-gt-MAX_SYMBOL_SIDE.false;
      rows = c.if-height-gt-MAX_SYMBOL_SIDE.false;
      area =
          ap length c.in-Ok.ensures
          ∙ colours-count (c.args.width * c.args.height) (take (3 * (c.from.result * c.from-2.result)) c.args.bytes.now)
          (rw (c.from.ensures, c.from-2.ensures) (omega (arith, length-take count c.args.bytes.now, rw (c.from.ensures, c.from-2.ensures) at c.if-bytes-count.false)));
    }
