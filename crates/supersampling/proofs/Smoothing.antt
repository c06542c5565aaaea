-- There is one smoothed picture; where a map's pixel is one pixel of the picture it is the picture; and blocks have parts of it.
use Rattle.std.proofs.Common.{◌≡◌, ◌∙◌, zero, suc, ℕ, ◌+◌, ◌*◌, ◌/◌, ◌%◌, ◌<◌, ◌≤◌, List, [], ◌∷◌, ◌++◌, length, map, Option, None, Some, get_or, drop, refl, sym, ap, arith}
use Rattle.std.proofs.Math.Nat.{mul-div_cancel_left, mul-le-mul_left}
use Rattle.std.proofs.lemmas.List.{get_or-drop, length-map, same_lists}
use Rattle.std.proofs.lemmas.Nat.{div_below}
use Rattle.std.proofs.lemmas.Option.{get_or_from_slice_get, slice_get-map}
use Rattle.std.specs.List.{flat_map, range_with_len, slice_get}
use Rattle.std.specs.Option.{option_map}
use Rattle.labelcache.proofs.Unique.{one-placement}
use Rattle.labelcache.specs.Candidate.{CandidateValue}
use Rattle.labelcache.specs.Placement.{setting}
use Rattle.labelcache.specs.declared.cache.Placed.{Placed}
use Rattle.mapdefs.specs.declared.colour.Rgb.{Rgb}
use Rattle.mapdefs.specs.declared.font.FontFields.{FontFields}
use Rattle.mapdefs.specs.Alpha.{rgba_of}
use Rattle.mapdefs.specs.declared.rgba.Rgba.{Rgba}
use Rattle.mapdefs.specs.declared.smooth_picture.SmoothFields.{SmoothFields}
use Rattle.smoothing.specs.Fine.{pixel_at, pixels_in, smoothed}
use Rattle.smoothing.specs.Mean.{mean_of}
use Rattle.viewport.specs.View.{ViewValue}
use Rattle.compose.specs.Labels.{ArePlaced, candidate_list}
use Rattle.compose.specs.Blocks.{whole_colour}
use Rattle.supersampling.specs.Smooth.{BlocksHaveWholePixels, HasOneSmoothPicture, SmoothByOneIsThePicture}

-- candidates have one list of labels
one-labelling : (view : ViewValue) (fonts : List FontFields) (candidates : List CandidateValue) (a b : List Placed) → ArePlaced view fonts candidates a → ArePlaced view fonts candidates b → a ≡ b
one-labelling view fonts candidates a b p q = one-placement (setting (record { width = view.width; height = view.height; fonts = fonts }) candidates) a b p q

column-below : (at w h : ℕ) → at < w * h → at % w < w
column-below at zero h below = absurd (omega arith)
column-below at (suc w) h below = omega arith

row-below : (at w h : ℕ) → at < w * h → at / w < h
row-below at zero h below = absurd (omega arith)
row-below at (suc w) h below = div_below at (suc w) h (omega arith) (omega arith)

-- an index by its row and its column
by-row : (at w h : ℕ) → at < w * h → at / w * w + at % w ≡ at
by-row at zero h below = absurd (omega arith)
by-row at (suc w) h below = omega arith

-- what has the same elements row by row is the same
same-rows : {X : Type 0} (w h : ℕ) (f : ℕ → ℕ → X) (a b : List X) → length a ≡ w * h → length b ≡ w * h →
    ((i j : ℕ) → i < w → j < h → slice_get a (j * w + i) ≡ Some (f i j)) → ((i j : ℕ) → i < w → j < h → slice_get b (j * w + i) ≡ Some (f i j)) → a ≡ b
same-rows w h f a b la lb p q = same_lists a b (la ∙ sym lb) (λ k d short.
    let below : k < w * h = omega (arith, la, short) in
    let is = by-row k w h below in
    let pa = rw is at (p (k % w) (k / w) (column-below k w h below) (row-below k w h below)) in
    let pb = rw is at (q (k % w) (k / w) (column-below k w h below) (row-below k w h below)) in
    get_or_from_slice_get a k (f (k % w) (k / w)) d pa ∙ sym (get_or_from_slice_get b k (f (k % w) (k / w)) d pb))

-- a side is what is so many times it
one-side : (n a b whole : ℕ) → 1 ≤ n → n * a ≡ whole → n * b ≡ whole → a ≡ b
one-side n a b whole some e f =
    let positive : zero < n = omega arith in
    sym (mul-div_cancel_left a positive) ∙ (ap (λ m. m / n) (e ∙ sym f) ∙ mul-div_cancel_left b positive)

same-picture : (a b : SmoothFields) → a.width ≡ b.width → a.height ≡ b.height → a.pixels ≡ b.pixels → a ≡ b
same-picture a b e f g = go a.width a.height a.pixels e f g
  where
    go : (w h : ℕ) (pixels : List Rgba) → w ≡ b.width → h ≡ b.height → pixels ≡ b.pixels → ◌≡◌ {A = SmoothFields} (record { width = w; height = h; pixels = pixels }) b
    go w h pixels e f g = rw (e, f, g) refl

pub one-smooth-picture : HasOneSmoothPicture
one-smooth-picture m view scale chosen background a b some p q =
    let candidates = candidate_list view scale m chosen in
    let labels = one-labelling view m.fonts candidates p.labels q.labels p.placed q.placed in
    let colour = whole_colour m view scale chosen background q.labels in
    let across : a.width ≡ b.width = one-side view.factor a.width b.width view.width some p.width q.width in
    let down : a.height ≡ b.height = one-side view.factor a.height b.height view.height some p.height q.height in
    let first = rw labels at p.pixels.pixels in
    let second : (i j : ℕ) → i < a.width → j < a.height → slice_get b.pixels (j * a.width + i) ≡ Some (smoothed view.factor colour i j) = rw (across, down) q.pixels.pixels in
    same-picture a b across down
    (same-rows a.width a.height (smoothed view.factor colour) a.pixels b.pixels p.area (q.area ∙ rw (across, down) refl) first second)

-- the mean of one pixel is that pixel
same-rgba : (c : Rgb) (red green blue alpha : ℕ) → red ≡ c.red → green ≡ c.green → blue ≡ c.blue → alpha ≡ 255 →
    ◌≡◌ {A = Rgba} (record { red = red; green = green; blue = blue; alpha = alpha }) (rgba_of (Some c))
same-rgba c red green blue alpha e f g h = rw (e, f, g, h) refl

pub mean-of-one : (p : Option Rgb) → mean_of (p ∷ []) ≡ rgba_of p
unfolding mean_of
mean-of-one None = refl
mean-of-one (Some c) =
    same-rgba c (mean_of (Some c ∷ [])).red (mean_of (Some c ∷ [])).green (mean_of (Some c ∷ [])).blue (mean_of (Some c ∷ [])).alpha
    (omega arith) (omega arith) (omega arith) refl

-- by one, a pixel consists of itself
by-one : (n : ℕ) (colour : ℕ → ℕ → Option Rgb) (i j : ℕ) → n ≡ 1 → smoothed n colour i j ≡ rgba_of (colour i j)
unfolding smoothed
by-one n colour i j e = rw e (same (1 * i) (1 * j) (omega arith) (omega arith)) ∙ mean-of-one (colour i j)
  where
    same : (i' j' : ℕ) → i' ≡ i → j' ≡ j → mean_of (colour i' j' ∷ []) ≡ mean_of (colour i j ∷ [])
    same i' j' e f = rw (e, f) refl

-- a pixel with its alpha says which it is
one-rgba : (a b : Option Rgb) → rgba_of a ≡ rgba_of b → a ≡ b
one-rgba None None e = refl
one-rgba (Some c) (Some d) e = ap (λ (p : Rgba). Some (record { red = p.red; green = p.green; blue = p.blue })) e
one-rgba None (Some d) e = absurd (apart (ap (λ (p : Rgba). p.alpha) e))
  where
    apart : ◌≡◌ {A = ℕ} 0 255 → ⊥
    apart h = omega arith
one-rgba (Some c) None e = absurd (apart (ap (λ (p : Rgba). p.alpha) e))
  where
    apart : ◌≡◌ {A = ℕ} 255 0 → ⊥
    apart h = omega arith

-- an element of pixels with their alphas
alpha-there : (pixels : List (Option Rgb)) (k : ℕ) (c : Option Rgb) → slice_get pixels k ≡ Some c → slice_get (map rgba_of pixels) k ≡ Some (rgba_of c)
alpha-there pixels k c e = slice_get-map rgba_of pixels k ∙ ap (option_map rgba_of) e

pixel-there : (pixels : List (Option Rgb)) (k : ℕ) (c : Option Rgb) → slice_get (map rgba_of pixels) k ≡ Some (rgba_of c) → slice_get pixels k ≡ Some c
pixel-there pixels k c e = go (slice_get pixels k) (sym (slice_get-map rgba_of pixels k) ∙ e)
  where
    inner : (a b : Rgba) → Some a ≡ Some b → a ≡ b
    inner a b h = cc

    go : (found : Option (Option Rgb)) → option_map rgba_of found ≡ Some (rgba_of c) → found ≡ Some c
    go None h = absurd (cc)
    go (Some d) h = ap Some (one-rgba d c (inner (rgba_of d) (rgba_of c) h))

-- an element by its row and its column, where the width is known otherwise
pub by-width : {X : Type 0} (xs : List X) (w w' i j : ℕ) (x : Option X) → w ≡ w' → slice_get xs (j * w + i) ≡ x → slice_get xs (j * w' + i) ≡ x
by-width xs w w' i j x e h = rw (← e) h

once : (n w whole : ℕ) → n ≡ 1 → n * w ≡ whole → w ≡ whole
once n w whole e f = omega (arith, rw e at f)

one-time : (n w whole : ℕ) → n ≡ 1 → w ≡ whole → n * w ≡ whole
one-time n w whole e f = rw e (omega (arith, f))

pub smooth-by-one : SmoothByOneIsThePicture
smooth-by-one m view scale chosen background p one = (
  λ picture. record {
    labels = picture.labels;
    placed = picture.placed;
    width = one-time view.factor p.width view.width one picture.width;
    height = one-time view.factor p.height view.height one picture.height;
    area = length-map p.pixels rgba_of ∙ picture.area;
    pixels = record {
      pixels = λ i j across down.
          let colour = whole_colour m view scale chosen background picture.labels in
          let there = picture.pixels i j (omega (arith, picture.width)) (omega (arith, picture.height)) in
          rw (by-one view.factor colour i j one)
          (alpha-there p.pixels (j * p.width + i) (colour i j) (by-width p.pixels view.width p.width i j (Some (colour i j)) (sym picture.width) there));
    };
  },
  λ smooth. record {
    labels = smooth.labels;
    placed = smooth.placed;
    width = once view.factor p.width view.width one smooth.width;
    height = once view.factor p.height view.height one smooth.height;
    area = sym (length-map p.pixels rgba_of) ∙ smooth.area;
    pixels = λ i j across down.
        let colour = whole_colour m view scale chosen background smooth.labels in
        let wide : p.width ≡ view.width = once view.factor p.width view.width one smooth.width in
        let high : p.height ≡ view.height = once view.factor p.height view.height one smooth.height in
        let there = smooth.pixels.pixels i j (omega arith) (omega arith) in
        by-width p.pixels p.width view.width i j (Some (colour i j)) wide
        (pixel-there p.pixels (j * p.width + i) (colour i j) (rw (by-one view.factor colour i j one) at there));
  },
)

-- what is made of numbers from one on is what is made otherwise of as many from another on
map-ranges : {X : Type 0} (f g : ℕ → X) (a b n : ℕ) → ((k : ℕ) → k < n → f (a + k) ≡ g (b + k)) → map f (range_with_len a n) ≡ map g (range_with_len b n)
map-ranges f g a b zero same = refl
map-ranges {X} f g a b (suc n) same = first ∙ ap (λ xs. g b ∷ xs) (map-ranges f g (a + 1) (b + 1) n next)
  where
    here : (h : ℕ → X) (k l : ℕ) → k ≡ l → h k ≡ h l
    here h k l e = rw e refl

    first : f a ∷ map f (range_with_len (a + 1) n) ≡ g b ∷ map f (range_with_len (a + 1) n)
    first = ap (λ x. x ∷ map f (range_with_len (a + 1) n)) (here f a (a + 0) (omega arith) ∙ (same 0 (omega arith) ∙ here g (b + 0) b (omega arith)))

    next : (k : ℕ) → k < n → f (a + 1 + k) ≡ g (b + 1 + k)
    next k below = here f (a + 1 + k) (a + (k + 1)) (omega arith) ∙ (same (k + 1) (omega arith) ∙ here g (b + (k + 1)) (b + 1 + k) (omega arith))

flat_map-ranges : {X : Type 0} (f g : ℕ → List X) (a b n : ℕ) → ((k : ℕ) → k < n → f (a + k) ≡ g (b + k)) → flat_map f (range_with_len a n) ≡ flat_map g (range_with_len b n)
flat_map-ranges f g a b zero same = refl
flat_map-ranges {X} f g a b (suc n) same = first ∙ ap (λ xs. g b ++ xs) (flat_map-ranges f g (a + 1) (b + 1) n next)
  where
    here : (h : ℕ → List X) (k l : ℕ) → k ≡ l → h k ≡ h l
    here h k l e = rw e refl

    first : f a ++ flat_map f (range_with_len (a + 1) n) ≡ g b ++ flat_map f (range_with_len (a + 1) n)
    first = ap (λ x. x ++ flat_map f (range_with_len (a + 1) n)) (here f a (a + 0) (omega arith) ∙ (same 0 (omega arith) ∙ here g (b + 0) b (omega arith)))

    next : (k : ℕ) → k < n → f (a + 1 + k) ≡ g (b + 1 + k)
    next k below = here f (a + 1 + k) (a + (k + 1)) (omega arith) ∙ (same (k + 1) (omega arith) ∙ here g (b + (k + 1)) (b + 1 + k) (omega arith))

-- the last of n pixels of one of so many lies before the end of all
pixel-below : (n i count a : ℕ) → i < count → a < n → n * i + a < n * count
pixel-below n i count a below less =
    let next : i + 1 ≤ count = omega arith in
    omega (arith, mul-le-mul_left n next)

-- the pixels of a pixel of a block are those of the pixel there of the whole
pixels-moved : (n column columns row rows : ℕ) (block whole : ℕ → ℕ → Option Rgb) →
    ((i j : ℕ) → i < n * columns → j < n * rows → block i j ≡ whole (n * column + i) (n * row + j)) →
    (i j : ℕ) → i < columns → j < rows → pixels_in block (n * i) n (n * j) n ≡ pixels_in whole (n * (column + i)) n (n * (row + j)) n
pixels-moved n column columns row rows block whole same i j left up =
    flat_map-ranges (λ l. map (λ k. block k l) (range_with_len (n * i) n)) (λ l. map (λ k. whole k l) (range_with_len (n * (column + i)) n)) (n * j) (n * (row + j)) n
    (λ b high. map-ranges (λ k. block k (n * j + b)) (λ k. whole k (n * (row + j) + b)) (n * i) (n * (column + i)) n (λ a wide. pixel a b wide high))
  where
    at : (k l k' l' : ℕ) → k ≡ k' → l ≡ l' → whole k l ≡ whole k' l'
    at k l k' l' e f = rw (e, f) refl

    shifted : (c i a : ℕ) → n * c + (n * i + a) ≡ n * (c + i) + a
    shifted c i a = omega arith

    pixel : (a b : ℕ) → a < n → b < n → block (n * i + a) (n * j + b) ≡ whole (n * (column + i) + a) (n * (row + j) + b)
    pixel a b wide high =
        same (n * i + a) (n * j + b) (pixel-below n i columns a left wide) (pixel-below n j rows b up high)
        ∙ at (n * column + (n * i + a)) (n * row + (n * j + b)) (n * (column + i) + a) (n * (row + j) + b) (shifted column i a) (shifted row j b)

pub blocks-have-whole-pixels : BlocksHaveWholePixels
unfolding smoothed
blocks-have-whole-pixels n column columns row rows block whole same i j left up = ap mean_of (pixels-moved n column columns row rows block whole same i j left up)

-- a row of the smoothed picture, from the fine rows that begin there
pub row-moved : (n k i width : ℕ) (pixels : List (Option Rgb)) → smoothed n (pixel_at (drop (n * k * width) pixels) width) i 0 ≡ smoothed n (pixel_at pixels width) i k
unfolding smoothed
row-moved n k i width pixels =
    ap mean_of
    (flat_map-ranges (λ l. map (λ c. pixel_at (drop (n * k * width) pixels) width c l) (range_with_len (n * i) n)) (λ l. map (λ c. pixel_at pixels width c l) (range_with_len (n * i) n)) (n * 0) (n * k) n
    (λ b high. map-ranges (λ c. pixel_at (drop (n * k * width) pixels) width c (n * 0 + b)) (λ c. pixel_at pixels width c (n * k + b)) (n * i) (n * i) n (λ a wide. pixel a b)))
  where
    at : (k l : ℕ) → k ≡ l → get_or pixels k None ≡ get_or pixels l None
    at k l e = rw e refl

    pixel : (a b : ℕ) → pixel_at (drop (n * k * width) pixels) width (n * i + a) (n * 0 + b) ≡ pixel_at pixels width (n * i + a) (n * k + b)
    pixel a b =
        get_or-drop (n * k * width) pixels ((n * 0 + b) * width + (n * i + a)) None
        ∙ at (n * k * width + ((n * 0 + b) * width + (n * i + a))) ((n * k + b) * width + (n * i + a)) (omega arith)
