use Rattle.std.proofs.Common.{◌≡◌, drop, map}
use Rattle.std.specs.Int.{int_max, int_min}
use Rattle.std.specs.List.{fold}
use Rattle.compose.proofs.anchor.middle_of.Given as goal

-- the least and the greatest of those so far and of the remaining places are those of all
abbrev pub invariant-loop-place : goal.invariant-loop-place
invariant-loop-place l = record {
  west : fold int_min l.west (map (λ q. q.x) (drop l.place-index l.rest)) ≡ fold int_min l.initial.west (map (λ q. q.x) l.rest);
  east : fold int_max l.east (map (λ q. q.x) (drop l.place-index l.rest)) ≡ fold int_max l.initial.east (map (λ q. q.x) l.rest);
  south : fold int_min l.south (map (λ q. q.y) (drop l.place-index l.rest)) ≡ fold int_min l.initial.south (map (λ q. q.y) l.rest);
  north : fold int_max l.north (map (λ q. q.y) (drop l.place-index l.rest)) ≡ fold int_max l.initial.north (map (λ q. q.y) l.rest);
}
