-- One more edge makes an odd number even, and an even one odd.
use Rattle.std.proofs.Common.{◌≡◌, ◌∙◌, ℕ, ◌+◌, ◌<◌, Bool, true, false, List, length, get_or, take, refl, sym, ap}
use Rattle.std.proofs.lemmas.List.Sums.{count_by_more_yes, count_by_more_no}
use Rattle.std.specs.List.{count_by}
use Rattle.geom.specs.EvenOdd.{is_odd}
use Rattle.scanfill.specs.RowFlips.{flip_if}
use Rattle.scanfill.proofs.Flipping.{odd-next}

pub parity-more : {X : Type 0} (p : X → Bool) (xs : List X) (k : ℕ) (x : X) → k < length xs → x ≡ get_or xs k x →
    is_odd (count_by p (take (k + 1) xs)) ≡ flip_if (p x) (is_odd (count_by p (take k xs)))
parity-more p xs k x h is = go (p x) refl
  where
    go : (t : Bool) → p x ≡ t → is_odd (count_by p (take (k + 1) xs)) ≡ flip_if t (is_odd (count_by p (take k xs)))
    go true e = ap is_odd (count_by_more_yes p xs k x h (ap p (sym is) ∙ e)) ∙ odd-next (count_by p (take k xs))
    go false e = ap is_odd (count_by_more_no p xs k x h (ap p (sym is) ∙ e))
