use Rattle.std.proofs.Common.{◌≡◌, drop}
use Rattle.xmltext.specs.Characters.{has_forbidden}
use Rattle.xmltext.proofs.characters.has_forbidden.Given as goal

abbrev pub invariant-loop-i : goal.invariant-loop-i
invariant-loop-i l = has_forbidden (drop l.i l.bytes) ≡ has_forbidden l.text
