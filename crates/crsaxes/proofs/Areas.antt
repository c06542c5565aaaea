-- Sides that are written out are read as the box that has them.
use Rattle.std.proofs.Common.{◌≡◌, ℕ, List, ℤ, ◌&&◌, true, int_lt, [], ◌∷◌, Some, Ok, ap, refl, ◌∙◌}
use Rattle.std.proofs.lemmas.Bool.{and_from}
use Rattle.geom.specs.Number.{coordinate_of}
use Rattle.geom.specs.World.{Area, IsCoordinate, IsExtent}
use Rattle.geom.specs.Written.{written}
use Rattle.geom.proofs.Products.{is_lt}
use Rattle.geom.proofs.Written.{coordinate-written}
use Rattle.crsaxes.specs.Axes.{axis_of, box_of, box_of_parts, box_in, with_area}
use Rattle.crsaxes.specs.declared.crs.Crs.{Crs}

-- four coordinates are the box of them, in a system of degrees
pub four-read : (crs : Crs) (a b c d : ℤ) → ((text : List ℕ) → axis_of crs text ≡ coordinate_of text) → IsCoordinate a → IsCoordinate b → IsCoordinate c → IsCoordinate d →
    box_of_parts crs (written a ∷ written b ∷ written c ∷ written d ∷ []) ≡ with_area (box_in crs a b c d)
four-read crs a b c d degrees ha hb hc hd =
    let read : (z : ℤ) → IsCoordinate z → axis_of crs (written z) ≡ Some z = λ z h. degrees (written z) ∙ coordinate-written z h in
    ap (λ x. box_of crs x (axis_of crs (written b)) (axis_of crs (written c)) (axis_of crs (written d))) (read a ha)
    ∙ ap (λ x. box_of crs (Some a) x (axis_of crs (written c)) (axis_of crs (written d))) (read b hb)
    ∙ ap (λ x. box_of crs (Some a) (Some b) x (axis_of crs (written d))) (read c hc)
    ∙ ap (λ x. box_of crs (Some a) (Some b) (Some c) x) (read d hd)

-- an extent has an area
pub extent-area : (area : Area) → IsExtent area → with_area area ≡ Ok area
extent-area area is =
    let test : (int_lt area.minx area.maxx && int_lt area.miny area.maxy) ≡ true =
    and_from _ _ (is_lt area.minx area.maxx is.columns) (is_lt area.miny area.maxy is.rows) in
    rw test refl
