use Rattle.std.proofs.Common.{◌≡◌, ◌+◌, ◌*◌, ◌≤◌, length}
use Rattle.std.specs.List.{fold}
use Rattle.std.specs.Str.{chars, IsUtf8}
use Rattle.bdffont.specs.Ink.{advance_of, text_width}
use Rattle.labelcache.proofs.advances.Advances.size_of.Given as goal

abbrev pub invariant-loop-character : goal.invariant-loop-character
invariant-loop-character l = record {
  same : fold (λ a c. a + advance_of l.self.glyphs c) l.width (chars l.rest) ≡ text_width l.self.glyphs (chars l.text);
  room : l.width + 255 * length (chars l.rest) ≤ 65280;
  utf8 : IsUtf8 l.rest;
}

abbrev pub decreases-loop-character : goal.decreases-loop-character
decreases-loop-character l = length l.rest
