-- Sums of channels, pixel by pixel.
use Rattle.std.proofs.Common.{◌≡◌, ℕ, ◌+◌, ◌<◌, List, [], ◌∷◌, ◌++◌, Option, length, take, get_or, arith}
use Rattle.std.proofs.lemmas.List.{take_more, append_assoc}
use Rattle.std.proofs.lemmas.List.Sums.{sum_by-append}
use Rattle.std.specs.List.{AllByRecursion}
use Rattle.mapdefs.specs.declared.colour.Rgb.{Rgb}
use Rattle.smoothing.specs.declared.sums.Sums.{Sums}
use Rattle.smoothing.specs.Sums.{AreSums, HasBytes, outer_of, inner_of}

pub bytes-append : (a b : List (Option Rgb)) → AllByRecursion HasBytes a → AllByRecursion HasBytes b → AllByRecursion HasBytes (a ++ b)
bytes-append [] b h k = k
bytes-append (p ∷ a) b h k = (h.0, bytes-append a b h.1 k)

-- one pixel more
pub sums-more : (pixels : List (Option Rgb)) (s t : Sums) (p : Option Rgb) → HasBytes p → t.outer ≡ s.outer + outer_of p → t.inner ≡ s.inner + inner_of p → AreSums pixels s → AreSums (pixels ++ p ∷ []) t
sums-more pixels s t p bytes outer inner are = record {
  bytes = bytes-append pixels (p ∷ []) are.bytes (bytes, tt);
  outer = omega (arith, sum_by-append outer_of pixels (p ∷ []), outer, are.outer);
  inner = omega (arith, sum_by-append inner_of pixels (p ∷ []), inner, are.inner);
}

-- one pixel more of a run
pub run-more : (before run : List (Option Rgb)) (i : ℕ) (s t : Sums) (p : Option Rgb) → i < length run → p ≡ get_or run i p → HasBytes p → t.outer ≡ s.outer + outer_of p → t.inner ≡ s.inner + inner_of p →
    AreSums (before ++ take i run) s → AreSums (before ++ take (i + 1) run) t
run-more before run i s t p within is bytes outer inner are =
    rw (take_more run i p within, ← is, ← append_assoc) (sums-more (before ++ take i run) s t p bytes outer inner are)
