-- Painting candidates is painting all.
use Rattle.std.proofs.Common.{◌≡◌, ◌∙◌, ℕ, suc, ◌+◌, ◌<◌, ◌≤◌, Bool, true, false, cond, List, [], ◌∷◌, ◌++◌, Option, None, Some, length, nat_cmp, refl, sym, ap, arith, ⊎_elim}
use Rattle.std.proofs.lemmas.Bool.{cases_eq, or_parts}
use Rattle.std.proofs.lemmas.List.Elements.{All-contains}
use Rattle.std.proofs.lemmas.Map.Keys.{sorted_from_strictly_increasing, sorted_tail}
use Rattle.std.specs.List.{Contains, flat_map, list_any, slice_get}
use Rattle.std.specs.List.Sorted.{IsStrictlySortedBy}
use Rattle.canvas.proofs.Painting.{colour_at-append, colour_at-none, colour_at-one}
use Rattle.canvas.specs.Shapes.{PaintedShape, colour_in, covers}
use Rattle.canvas.specs.Painted.{colour_at}
use Rattle.mapdefs.specs.declared.colour.Rgb.{Rgb}
use Rattle.mapdefs.specs.declared.feature.FeatureFields.{FeatureFields}
use Rattle.compose.specs.Near.{CandidatesPaintAll}
use Rattle.compose.specs.Walk.{given_at}
use Rattle.geom.proofs.Rising.{first-least, first-below}
use Rattle.mapdefs.proofs.Containing.{first_or}
use Rattle.vertices.proofs.Finding.{here, there}

-- shapes of which none covers the pixel leave its colour
pub quiet : (background : Option Rgb) (shapes : List PaintedShape) (i j : ℕ) → list_any (λ t. covers t i j) shapes ≡ false → colour_at background shapes i j ≡ background
quiet background [] i j h = colour_at-none background i j
quiet background (t ∷ shapes) i j h =
    let both = or_parts (covers t i j) (list_any (λ t. covers t i j) shapes) h in
    let one : colour_at background (t ∷ []) i j ≡ background = colour_at-one background t i j ∙ ap (λ (b : Bool). cond b (colour_in t i j) background) both.0 in
    colour_at-append background (t ∷ []) shapes i j
    ∙ (ap (λ (c : Option Rgb). colour_at c shapes i j) one ∙ quiet background shapes i j both.1)

-- indices from one on
pub at-start : {A : Type 0} (h : ℕ → A) (shapes : A) (from : ℕ) → h (from + 0) ≡ shapes → h from ≡ shapes
at-start h shapes from e = ap h (turn from) ∙ e
  where
    turn : (n : ℕ) → n ≡ n + 0
    turn n = omega arith

pub one-on : {A : Type 0} (h : ℕ → A) (shapes : A) (from k : ℕ) → h (from + suc k) ≡ shapes → h (from + 1 + k) ≡ shapes
one-on h shapes from k e = ap h (turn from k) ∙ e
  where
    turn : (n k : ℕ) → n + 1 + k ≡ n + suc k
    turn n k = omega arith

-- the numbers lie between two
abbrev pub AreFrom : ℕ → ℕ → List ℕ → Type 0
AreFrom from past found = (k : ℕ) → Contains found k → (from ≤ k) × (k < past)

-- and each of those between that passes is one of them
abbrev HasEach : (ℕ → Bool) → ℕ → ℕ → List ℕ → Type 0
HasEach test from past found = (k : ℕ) → from ≤ k → k < past → test k ≡ true → Contains found k

-- an element whose index isn't there
skipped : (h : ℕ → List PaintedShape) (i j from past : ℕ) (found : List ℕ) (first rest : List PaintedShape) (background : Option Rgb) → h from ≡ first → (Contains found from → ⊥) →
    AreFrom from past found → HasEach (λ k. list_any (λ t. covers t i j) (h k)) from past found → from < past →
    (AreFrom (from + 1) past found → HasEach (λ k. list_any (λ t. covers t i j) (h k)) (from + 1) past found → colour_at background (flat_map h found) i j ≡ colour_at background rest i j) →
    colour_at background (flat_map h found) i j ≡ colour_at background (first ++ rest) i j
skipped h i j from past found first rest background begins none within each short others =
    others later left
    ∙ sym (colour_at-append background first rest i j ∙ ap (λ (c : Option Rgb). colour_at c rest i j) (ap (λ (ts : List PaintedShape). colour_at background ts i j) (sym begins) ∙ quiet background (h from) i j (uncovered (list_any (λ t. covers t i j) (h from)) refl)))
  where
    uncovered : (t : Bool) → list_any (λ t. covers t i j) (h from) ≡ t → t ≡ false
    uncovered true e = absurd (none (each from (omega arith) short e))
    uncovered false e = refl

    later : AreFrom (from + 1) past found
    later k c = ⊎_elim
        (λ (e : k ≡ from). let d : Contains found from = rw e at c in absurd (none d))
        (λ (n : k ≡ from → ⊥). let w = within k c in (omega (arith, w.0, n), w.1))
        (cases_eq k from)

    left : HasEach (λ k. list_any (λ t. covers t i j) (h k)) (from + 1) past found
    left k low high e = each k (omega (arith, low)) high e

-- an element whose index is the first
painted : (h : ℕ → List PaintedShape) (i j from past : ℕ) (ys : List ℕ) (first rest : List PaintedShape) (background : Option Rgb) → h from ≡ first → IsStrictlySortedBy nat_cmp (from ∷ ys) →
    AreFrom from past (from ∷ ys) → HasEach (λ k. list_any (λ t. covers t i j) (h k)) from past (from ∷ ys) →
    (AreFrom (from + 1) past ys → HasEach (λ k. list_any (λ t. covers t i j) (h k)) (from + 1) past ys →
    colour_at (colour_at background first i j) (flat_map h ys) i j ≡ colour_at (colour_at background first i j) rest i j) →
    colour_at background (flat_map h (from ∷ ys)) i j ≡ colour_at background (first ++ rest) i j
painted h i j from past ys first rest background begins rising within each others =
    colour_at-append background (h from) (flat_map h ys) i j
    ∙ (ap (λ (ts : List PaintedShape). colour_at (colour_at background ts i j) (flat_map h ys) i j) begins
    ∙ (others later left ∙ sym (colour_at-append background first rest i j)))
  where
    later : AreFrom (from + 1) past ys
    later k c = let w = within k (there from k ys c) in (omega (arith, first-below from ys k rising c), w.1)

    left : HasEach (λ k. list_any (λ t. covers t i j) (h k)) (from + 1) past ys
    left k low high e = ⊎_elim
        (λ (same : from ≡ k). absurd (omega (arith, low, same)))
        (λ (c : Contains ys k). c)
        (first_or from k ys (each k (omega (arith, low)) high e))

-- from an index on: what each index gives is what the elements give
from-on : (f : FeatureFields → List PaintedShape) (h : ℕ → List PaintedShape) (i j : ℕ) (xs : List FeatureFields) (from past : ℕ) (found : List ℕ) (background : Option Rgb) →
    past ≡ from + length xs → ((k : ℕ) (x : FeatureFields) → slice_get xs k ≡ Some x → h (from + k) ≡ f x) → IsStrictlySortedBy nat_cmp found → AreFrom from past found →
    HasEach (λ k. list_any (λ t. covers t i j) (h k)) from past found →
    colour_at background (flat_map h found) i j ≡ colour_at background (flat_map f xs) i j
from-on f h i j [] from past [] background e link rising within each = refl
from-on f h i j [] from past (y ∷ ys) background e link rising within each = let w = within y (here y ys) in absurd (omega (arith, w.0, w.1, e))
from-on f h i j (x ∷ xs) from past [] background e link rising within each =
    skipped h i j from past [] (f x) (flat_map f xs) background (at-start h (f x) from (link 0 x refl)) (λ c. absurd (omega (arith, c.1))) within each (omega (arith, e))
    (λ w l. from-on f h i j xs (from + 1) past [] background (omega (arith, e)) (λ k z s. one-on h (f z) from k (link (suc k) z s)) rising w l)
from-on f h i j (x ∷ xs) from past (y ∷ ys) background e link rising within each =
    let next : (k : ℕ) (z : FeatureFields) → slice_get xs k ≡ Some z → h (from + 1 + k) ≡ f z = λ k z s. one-on h (f z) from k (link (suc k) z s) in
    let start : h from ≡ f x = at-start h (f x) from (link 0 x refl) in
    ⊎_elim
    (λ (same : y ≡ from).
    let rising' : IsStrictlySortedBy nat_cmp (from ∷ ys) = rw same at rising in
    let within' : AreFrom from past (from ∷ ys) = rw same at within in
    let each' : HasEach (λ k. list_any (λ t. covers t i j) (h k)) from past (from ∷ ys) = rw same at each in
    rw same
    (painted h i j from past ys (f x) (flat_map f xs) background start rising' within' each'
    (λ w l. from-on f h i j xs (from + 1) past ys (colour_at background (f x) i j) (omega (arith, e)) next (sorted_tail nat_cmp from ys rising') w l)))
    (λ (other : y ≡ from → ⊥).
    skipped h i j from past (y ∷ ys) (f x) (flat_map f xs) background start
    (λ c. let w = within y (here y ys) in absurd (other (omega (arith, first-least y ys from rising c, w.0)))) within each (omega (arith, e))
    (λ w l. from-on f h i j xs (from + 1) past (y ∷ ys) background (omega (arith, e)) next rising w l))
    (cases_eq y from)

-- an element whose shapes cover a pixel is one of those that have some
covered-there : (f : FeatureFields → List PaintedShape) (features : List FeatureFields) (found : List ℕ) (i j k : ℕ) →
    ((feature : FeatureFields) → slice_get features k ≡ Some feature → list_any (λ t. covers t i j) (f feature) ≡ true → Contains found k) →
    list_any (λ t. covers t i j) (given_at f features k) ≡ true → Contains found k
covered-there f features found i j k each h = go (slice_get features k) refl
  where
    go : (o : Option FeatureFields) → slice_get features k ≡ o → Contains found k
    go None e = absurd (let none : false ≡ true = rw e at h in cc)
    go (Some feature) e = each feature e (rw e at h)

pub paint-all : CandidatesPaintAll
paint-all f features found background i j rising indices each =
    from-on f (given_at f features) i j features 0 (length features) found background (omega arith)
    (λ k x s. ap (λ (n : ℕ). given_at f features n) (none k) ∙ rw s refl)
    (sorted_from_strictly_increasing found rising)
    (λ k c. (omega arith, All-contains (λ (n : ℕ). n < length features) found k indices c))
    (λ k low high e. covered-there f features found i j k (each k) e)
  where
    none : (k : ℕ) → 0 + k ≡ k
    none k = omega arith
