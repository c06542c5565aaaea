use Rattle.std.proofs.Common.{◌≡◌, drop}
use Rattle.maptree.specs.Symbol.{first_fault, style_fault, class_fault}
use Rattle.maptree.proofs.symbol.class_fault.Given as goal

abbrev pub invariant-loop-style : goal.invariant-loop-style
invariant-loop-style l = first_fault (style_fault l.symbols) (drop l.style-index l.style-items) ≡ class_fault l.symbols l.class
