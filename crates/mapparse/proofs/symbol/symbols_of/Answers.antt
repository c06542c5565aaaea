use Rattle.std.proofs.Common.{[], ◌∷◌, length-append, ◌∙◌, arith}
use Rattle.mapparse.proofs.SymbolList.{one-more}
use Rattle.mapparse.proofs.symbol.symbols_of.Goals as goal

pub loop-tree-preserved : goal.loop-tree-preserved
loop-tree-preserved c =
    let done = c.loop-tree.symbols in
    record {
      all = rw c.in_ok-push.ensures.ok (one-more c.args.files.now done c.args.trees.now c.loop-tree.tree-index c.tree-item.result c.in_ok-symbol_of.field-0 c.loop-tree-test.true c.tree-item.is c.in_ok-symbol_of.ensures.symbol ∙ c.loop-tree.invariant.all);
      count = rw c.in_ok-push.ensures.ok (omega (arith, c.loop-tree.invariant.count, length-append done (c.in_ok-symbol_of.field-0 ∷ [])));
    }
