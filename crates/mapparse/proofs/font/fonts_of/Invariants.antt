use Rattle.std.proofs.Common.{◌≡◌, ◌++◌, drop}
use Rattle.std.specs.Prelude.{Ok}
use Rattle.mapdefs.specs.Outcome.{and_then}
use Rattle.mapparse.specs.Fonts.{font_files, fonts_in, fonts_of}
use Rattle.mapparse.proofs.font.fonts_of.Given as goal

-- the fonts so far and those of the files that are left are all
abbrev pub invariant-loop-used : goal.invariant-loop-used
invariant-loop-used l = and_then (fonts_in l.most l.files (font_files (drop l.used-index l.all))) (λ more. Ok (l.fonts ++ more)) ≡ fonts_of l.files l.tree
