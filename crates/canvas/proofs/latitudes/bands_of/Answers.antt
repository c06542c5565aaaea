use Rattle.std.proofs.Common.{◌≡◌, ◌∙◌, ℕ, ◌+◌, ◌-◌, ◌<◌, ◌≤◌, List, [], ◌∷◌, ◌++◌, length, get_or, refl, ap, arith, ⊎_elim}
use Rattle.std.proofs.lemmas.Bool.{cases_lt}
use Rattle.std.proofs.lemmas.List.{get_or-append_right, get_or_append_left, length-append}
use Rattle.viewport.specs.View.{ViewValue}
use Rattle.canvas.specs.Latitudes.{AreBands, IsBand}
use Rattle.canvas.specs.declared.latitudes.Band.{Band}
use Rattle.canvas.proofs.latitudes.bands_of.Goals as goal

-- the band of one more row
bands-more : (view : ViewValue) (row : ℕ) (bands : List Band) (band : Band) → length bands ≡ row → AreBands view bands → IsBand view row band → AreBands view (bands ++ band ∷ [])
bands-more view row bands band count are is = λ k d h. ⊎_elim
    (λ (lt : k < length bands). rw (get_or_append_left bands (band ∷ []) d k lt) (are k d lt))
    (λ (ge : length bands ≤ k).
    let same : k ≡ row = omega (arith, h, ge, count, length-append bands (band ∷ [])) in
    let first : k - length bands ≡ 0 = omega (arith, same, count) in
    let last : get_or (bands ++ band ∷ []) k d ≡ band = get_or-append_right bands (band ∷ []) (length bands) k d refl ge ∙ ap (λ n. get_or (band ∷ []) n d) first in
    rw (last, same) is)
    (cases_lt k (length bands))

pub loop-row-preserved : goal.loop-row-preserved
loop-row-preserved c =
    let l = c.loop-row in
    let band = c.band_of.result in
    rw c.in_ok-push.ensures.items (record {
      count = length-append l.bands.items (band ∷ []) ∙ ap (λ n. n + 1) l.invariant.count;
      each = bands-more c.args.projection.now l.row l.bands.items band l.invariant.count l.invariant.each c.band_of.ensures;
    })
