-- Without candidates there are no labels.
use Rattle.std.proofs.Common.{◌≡◌, length, [], arith}
use Rattle.std.proofs.lemmas.Option.{slice_get_within}
use Rattle.labelcache.specs.Placement.{IsPlacement, Setting}

pub none_placed : (s : Setting) → length s.candidates ≡ 0 → IsPlacement s []
none_placed s none = record {
  order = λ i j d a b. absurd (omega (arith, b));
  stands = λ k label is. absurd (omega (arith, slice_get_within [] k label is));
  left_out = λ n c is missing. absurd (omega (arith, none, slice_get_within s.candidates n c is));
}
