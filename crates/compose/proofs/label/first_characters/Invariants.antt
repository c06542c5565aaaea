use Rattle.std.proofs.Common.{◌≡◌, ◌≤◌, ◌-◌, drop}
use Rattle.std.specs.Str.{IsUtf8, chars}
use Rattle.compose.proofs.label.first_characters.Given as goal

-- the rest of the text has the characters after those that were counted
abbrev pub invariant-loop-count : goal.invariant-loop-count
invariant-loop-count l = record {
  count : l.count ≤ l.most;
  utf8 : IsUtf8 l.rest;
  left : chars l.rest ≡ drop l.count (chars l.text);
}

abbrev pub decreases-loop-count : goal.decreases-loop-count
decreases-loop-count l = l.most - l.count
