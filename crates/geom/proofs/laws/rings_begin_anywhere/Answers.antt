use Rattle.geom.proofs.Together.{inside-begin}
use Rattle.geom.proofs.laws.rings_begin_anywhere.Goals as goal

pub returns : goal.returns
returns c = inside-begin
