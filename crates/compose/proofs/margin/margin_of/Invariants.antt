use Rattle.std.proofs.Common.{◌≡◌, ◌≤◌, max, drop}
use Rattle.compose.specs.Near.{furthest, margin_of}
use Rattle.compose.proofs.Margins.{styles_of}
use Rattle.compose.proofs.margin.margin_of.Given as goal

-- the further of what was found so far and what the styles of the remaining classes paint is that of all
abbrev pub invariant-loop-class : goal.invariant-loop-class
invariant-loop-class l = record {
  value : max l.found (furthest l.factor l.symbols (styles_of (drop l.class-index l.class-items))) ≡ margin_of l.factor l.symbols l.layer;
  most : l.found ≤ 1024;
}
