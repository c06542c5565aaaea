use Rattle.csvpoints.proofs.table.read.Goals as goal

pub new-requires : goal.new-requires
new-requires c =
    let (has, count) = c.in_ok-columns.ensures.columns in
    record { names = rw (← count) has.within; points = rw (← count) c.in_ok-features.ensures.points }
