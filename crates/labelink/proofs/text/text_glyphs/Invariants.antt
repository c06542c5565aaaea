use Rattle.std.proofs.Common.{◌≡◌, ◌+◌, ◌*◌, ◌≤◌, ◌++◌, length}
use Rattle.std.specs.Str.{chars, IsUtf8}
use Rattle.labelink.specs.Ink.{glyphs_from}
use Rattle.labelink.proofs.text.text_glyphs.Given as goal

abbrev pub invariant-loop-character : goal.invariant-loop-character
invariant-loop-character l = record {
  same : l.placed.items ++ glyphs_from l.fields l.at l.pen (chars l.rest) ≡ glyphs_from l.fields l.at 0 (chars l.text);
  room : l.pen + 255 * length (chars l.rest) ≤ 65280;
  utf8 : IsUtf8 l.rest;
}

abbrev pub decreases-loop-character : goal.decreases-loop-character
decreases-loop-character l = length l.rest
