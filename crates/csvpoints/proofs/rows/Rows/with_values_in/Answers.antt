use Rattle.std.proofs.Common.{◌≡◌}
use Rattle.csvpoints.specs.Rows.{chosen_of}
use Rattle.csvpoints.proofs.RowFeatures.{chosen-length, rows-chosen}
use Rattle.csvpoints.proofs.rows.Rows.with_values_in.Goals as goal

pub of-requires : goal.of-requires
of-requires c =
    let columns = c.args.columns.now in
    let rows = c.self.inside in
    let chosen : c.in_ok-chosen.chosen ≡ chosen_of columns rows.count rows.places rows.texts = rw c.as_slice.ensures at c.in_ok-chosen.ensures in
    rw chosen (chosen-length columns rows.count rows.places rows.texts)

pub returns : goal.returns
returns c =
    let columns = c.args.columns.now in
    let rows = c.self.inside in
    let chosen : c.in_ok-chosen.chosen ≡ chosen_of columns rows.count rows.places rows.texts = rw c.as_slice.ensures at c.in_ok-chosen.ensures in
    rw (c.of.ensures, chosen, ← c.self.view_is) (rows-chosen columns rows.count rows.places rows.texts)
