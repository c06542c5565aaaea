use Rattle.std.proofs.Common.{◌≡◌, take}
use Rattle.labelcache.proofs.page.advances_of.Given as goal

-- the advances of so many fonts are there
abbrev pub invariant-loop-font : goal.invariant-loop-font
invariant-loop-font l = l.advances.items ≡ take l.font-index l.fonts
