use Rattle.std.proofs.Common.{◌≡◌, ◌≤◌, max, drop}
use Rattle.compose.specs.Near.{furthest}
use Rattle.compose.proofs.margin.further.Given as goal

-- the further of what was found so far and what the remaining styles paint is that of all
abbrev pub invariant-loop-style : goal.invariant-loop-style
invariant-loop-style l = record {
  value : max l.found (furthest l.factor l.symbols (drop l.style-index l.styles)) ≡ max l.most (furthest l.factor l.symbols l.styles);
  most : l.found ≤ 1024;
}
