-- Axes exchanged.
use Rattle.std.proofs.Common.{◌≡◌, refl}
use Rattle.std.specs.Prelude.{ℤ, Option, None, Some}
use Rattle.geom.specs.Number.{coordinate_of}
use Rattle.crsaxes.specs.Axes.{box_of, AxesAreExchanged}
use Rattle.crsaxes.specs.declared.crs.Crs.TheVariants.{Crs84, Epsg4326}

-- the box of four coordinates, some of which may be missing, with the axes exchanged
exchanged : (a b c d : Option ℤ) → box_of Epsg4326 b a d c ≡ box_of Crs84 a b c d
exchanged None None c d = refl
exchanged None (Some b) c d = refl
exchanged (Some a) None c d = refl
exchanged (Some a) (Some b) None None = refl
exchanged (Some a) (Some b) None (Some d) = refl
exchanged (Some a) (Some b) (Some c) None = refl
exchanged (Some a) (Some b) (Some c) (Some d) = refl

-- the law
pub axes-are-exchanged : AxesAreExchanged
axes-are-exchanged west south east north = exchanged (coordinate_of west) (coordinate_of south) (coordinate_of east) (coordinate_of north)
