use Rattle.std.proofs.Common.{◌≡◌, ◌+◌, ◌*◌, ◌≤◌, length}
use Rattle.std.specs.Str.{chars, IsUtf8}
use Rattle.bdffont.specs.Ink.{has_ink_from, has_ink}
use Rattle.bdffont.proofs.text.ink.Given as goal

abbrev pub invariant-loop-character : goal.invariant-loop-character
invariant-loop-character l = record {
  same : has_ink_from l.fields l.at l.i l.j l.pen (chars l.rest) ≡ has_ink l.fields (chars l.text) l.at l.i l.j;
  room : l.pen + 255 * length (chars l.rest) ≤ 65280;
  utf8 : IsUtf8 l.rest;
}

abbrev pub decreases-loop-character : goal.decreases-loop-character
decreases-loop-character l = length l.rest
