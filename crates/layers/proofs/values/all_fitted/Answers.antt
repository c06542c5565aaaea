use Rattle.layers.proofs.Fitting.{all-fit}
use Rattle.layers.proofs.values.all_fitted.Goals as goal

pub returns : goal.returns
returns c = rw (← all-fit c.args.items.now c.args.columns.now c.args.rows, ← c.in_ok-found.ensures, ← c.deref.ensures.value, ← c.in_ok-with_values_in.ensures) c.into_features.ensures
