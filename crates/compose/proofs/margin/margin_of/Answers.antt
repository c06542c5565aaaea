use Rattle.compose.proofs.Margins.{class-step}
use Rattle.compose.proofs.margin.margin_of.Goals as goal

pub loop-class-preserved : goal.loop-class-preserved
loop-class-preserved c = record {
  value =
      class-step c.args.factor c.args.symbols.now c.as_slice-class-items.result.now c.loop-class.class-index c.loop-class.found c.further-found.result _ c.class-item.result
      c.loop-class-test.true c.class-item.is (rw (c.as_slice.ensures, c.get.ensures.value) at c.further-found.ensures.value) c.loop-class.invariant.value;
  most = c.further-found.ensures.most;
}
