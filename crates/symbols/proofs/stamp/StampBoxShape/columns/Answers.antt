use Rattle.std.proofs.Common.{◌^◌, arith}
use lib.IntN.{pos}
use Rattle.scanfill.proofs.Words.{word}
use Rattle.symbols.specs.Stamp.{StampValue}
use Rattle.symbols.proofs.Stamping.{no-column}
use Rattle.symbols.proofs.stamp.StampBoxShape.columns.Goals as goal

pub returns-clause-before : goal.returns-clause-before
returns-clause-before c = λ i j h.
    let s : StampValue = record { pixmap = c.self.inside.pixmap.now; pixel = c.self.inside.pixel } in
    let none = rw (c.i.ensures.value, word (2 ^ 44) s.pixel.i (omega arith) c.i.ensures.limits.column, c.get.ensures.value) at (c.span_on.ensures.before i h) in
    rw (← c.self.view_is) (no-column s (pos i) (pos j) none)

pub returns-clause-after : goal.returns-clause-after
returns-clause-after c = λ i j h past.
    let s : StampValue = record { pixmap = c.self.inside.pixmap.now; pixel = c.self.inside.pixel } in
    let none = rw (c.i.ensures.value, word (2 ^ 44) s.pixel.i (omega arith) c.i.ensures.limits.column, c.get.ensures.value) at (c.span_on.ensures.after i h past) in
    rw (← c.self.view_is) (no-column s (pos i) (pos j) none)
