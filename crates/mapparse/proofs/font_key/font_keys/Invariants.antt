use Rattle.std.proofs.Common.{◌≡◌, ◌++◌}
use Rattle.std.specs.List.{filter_map}
use Rattle.std.specs.Vec.Iter.{into_iter_items}
use Rattle.maptree.specs.declared.tree.UsedFile.{UsedFile}
use Rattle.mapparse.specs.Fonts.{font_keys}
use Rattle.mapparse.proofs.font_key.font_keys.Given as goal

abbrev pub invariant-loop-used : goal.invariant-loop-used
invariant-loop-used l = l.keys ++ filter_map (λ (used : UsedFile). used.font) (into_iter_items l.used-iterator) ≡ font_keys l.fn.files.items
