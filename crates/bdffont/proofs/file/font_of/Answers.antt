use Rattle.bdffont.proofs.file.font_of.Goals as goal

pub new-requires : goal.new-requires
new-requires c =
    record {
      bounds = c.requires.bounds;
      count = rw c.of.ensures c.requires.count;
      each = rw c.of.ensures (∣ c.requires.each ∣₁);
      rising = rw c.of.ensures c.requires.rising;
    }
