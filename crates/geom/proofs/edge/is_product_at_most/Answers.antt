use Rattle.geom.proofs.Integers.{product-is, words_product-fits}
use Rattle.geom.proofs.edge.is_product_at_most.Goals as goal

pub overflow_mul-result : goal.overflow_mul-result
overflow_mul-result c = words_product-fits c.args.a c.args.b c.requires.a c.requires.b

pub overflow_mul-result-2 : goal.overflow_mul-result-2
overflow_mul-result-2 c = words_product-fits c.args.c c.args.d c.requires.c c.requires.d

pub returns : goal.returns
returns c = rw (product-is c.args.a c.args.b c.requires.a c.requires.b, product-is c.args.c c.args.d c.requires.c c.requires.d)
