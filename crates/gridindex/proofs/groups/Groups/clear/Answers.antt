use Rattle.std.proofs.Common.{refl}
use Rattle.gridindex.proofs.Covering.{kept-none}
use Rattle.gridindex.proofs.groups.Groups.clear.Goals as goal

pub returns : goal.returns
returns c = kept-none _ c.clear.ensures.items c.clear-2.ensures.items refl
