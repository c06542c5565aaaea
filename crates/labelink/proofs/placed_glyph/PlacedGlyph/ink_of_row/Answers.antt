use Rattle.std.proofs.Common.{◌≡◌, arith}
use Rattle.std.proofs.lemmas.Result.{on_ok_weaker}
use lib.IntN.{pos}
use Rattle.bdffont.specs.Ink.{inks}
use Rattle.labelink.specs.Ink.{covers_glyph}
use Rattle.labelink.proofs.Rows.{alone-inks, runs-same}
use Rattle.labelink.proofs.placed_glyph.PlacedGlyph.ink_of_row.Goals as goal

pub returns-clause-ok : goal.returns-clause-ok
returns-clause-ok c =
    let g = c.self.inside.glyph.now in
    let side : c.with_last-side.result ≡ g.bounds.width = omega (arith, c.with_last-side.ensures, c.from.ensures, c.if-width-eq0.false) in
    rw (← c.self.view_is) (on_ok_weaker c.row.result
    (λ runs. runs-same (λ k. covers_glyph (record { glyph = g; left = pos 0; top = pos 0 }) (pos k) (pos c.args.row)) (λ k. inks g k c.args.row) 0 g.bounds.width c.row.new.out
    (alone-inks g c.args.row) (rw (side, c.from-2.ensures, c.new-alone.ensures) at runs))
    c.row.ensures.ok)
