use Rattle.viewport.proofs.Products.{products-law}
use Rattle.viewport.proofs.laws.products.Goals as goal

pub returns : goal.returns
returns c = products-law
