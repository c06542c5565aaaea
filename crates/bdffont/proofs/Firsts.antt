-- The first glyph of each encoding.
use Rattle.std.proofs.Common.{◌≡◌, ◌≢◌, ℕ, zero, suc, ◌<◌, ◌≤◌, Bool, true, false, List, [], ◌∷◌, ◌++◌, length, get_or, filter, Option, None, Some, refl, sym, ◌∙◌, ap, subst, arith, All, append-nil, length-append}
use Rattle.std.specs.Prelude.{◌==◌, find, nat_lt, if◌then◌else◌, pos}
use Rattle.std.specs.List.Sorted.{IsNonDecreasingBy, IsStableBy, ties}
use Rattle.std.specs.Ordering.{nat_cmp, is_lt}
use Rattle.std.proofs.lemmas.List.Kept.{AllPairs-cons}
use Rattle.std.proofs.lemmas.List.Elements.{All-nil, All-cons, All-weaker, All-head, All-tail}
use Rattle.std.proofs.lemmas.List.Sorted.{IsNonDecreasingBy-drop}
use Rattle.std.proofs.lemmas.Bool.Decides.{nat_tests}
use Rattle.std.proofs.lemmas.Bool.{eqb-true, eqb-false, ltb-true, ltb-false}
use Rattle.std.proofs.lemmas.Option.{same_Some}
use Rattle.mapdefs.specs.declared.font.Glyph.{Glyph}
use Rattle.mapdefs.specs.FontLimits.{IsRising}
use Rattle.bdffont.specs.File.{has_encoding, follows, AreFirstsOf}

-- the glyphs whose encoding is above the last one that was kept
abbrev pub kept_from : Option ℕ → List Glyph → List Glyph
kept_from last [] = []
kept_from last (g ∷ gs) = if follows last g.encoding then g ∷ kept_from (Some g.encoding) gs else kept_from last gs

-- encodings that don't fall, from a least one on
abbrev DontFall : ℕ → List Glyph → Type 0
DontFall m [] = Unit {0}
DontFall m (g ∷ gs) = (m ≤ g.encoding) × DontFall g.encoding gs

dont-fall : (g : Glyph) (gs : List Glyph) → IsNonDecreasingBy (λ (glyph : Glyph). glyph.encoding) (g ∷ gs) → DontFall g.encoding gs
dont-fall g [] up = tt
dont-fall g (x ∷ xs) up = (up 0 1 g (omega arith) (omega arith), dont-fall x xs (IsNonDecreasingBy-drop (λ (glyph : Glyph). glyph.encoding) 1 (g ∷ x ∷ xs) up))

-- what is kept after an encoding is above it
record IsKept (m : ℕ) (gs : List Glyph) : Type 0 where
  above : All (λ (g : Glyph). m < g.encoding) (kept_from (Some m) gs)
  rising : IsRising (kept_from (Some m) gs)

kept-cons : (m : ℕ) (x : Glyph) (xs : List Glyph) (t : Bool) → nat_lt m x.encoding ≡ t → IsKept m xs → IsKept x.encoding xs → IsKept m (x ∷ xs)
kept-cons m x xs true e skipped kept =
    let lt : m < x.encoding = ltb-true _ _ e in
    let over = All-weaker (λ (g : Glyph). x.encoding < g.encoding) (λ (g : Glyph). m < g.encoding) (λ g h. omega arith) _ kept.above in
    record {
      above = rw e (All-cons (λ (g : Glyph). m < g.encoding) x _ lt over);
      rising = rw e (AllPairs-cons (λ (a : Glyph) (b : Glyph). a.encoding < b.encoding) x _ kept.above kept.rising);
    }
kept-cons m x xs false e skipped kept = record { above = rw e skipped.above; rising = rw e skipped.rising }

kept-after : (m : ℕ) (gs : List Glyph) → IsKept m gs
kept-after m [] = record { above = All-nil (λ (g : Glyph). m < g.encoding); rising = λ i j d lt within. absurd (omega arith) }
kept-after m (x ∷ xs) = kept-cons m x xs (nat_lt m x.encoding) refl (kept-after m xs) (kept-after x.encoding xs)

-- another encoding is found among those that are kept as among all
found-cons : (m e : ℕ) (x : Glyph) (xs : List Glyph) (above is : Bool) → nat_lt m x.encoding ≡ above → (x.encoding == e) ≡ is → e ≢ m → m ≤ x.encoding →
    (x.encoding ≡ m → find (has_encoding e) (kept_from (Some m) xs) ≡ find (has_encoding e) xs) →
    (e ≢ x.encoding → find (has_encoding e) (kept_from (Some x.encoding) xs) ≡ find (has_encoding e) xs) →
    find (has_encoding e) (kept_from (Some m) (x ∷ xs)) ≡ find (has_encoding e) (x ∷ xs)
found-cons m e x xs true true a i ne le skipped kept = rw (a, i) refl
found-cons m e x xs true false a i ne le skipped kept = rw (a, i) (kept (λ same. eqb-false _ _ i (sym same)))
found-cons m e x xs false true a i ne le skipped kept =
    let not_above : x.encoding ≤ m = ltb-false _ _ a in
    let is : x.encoding ≡ e = eqb-true _ _ i in
    absurd (ne (omega arith))
found-cons m e x xs false false a i ne le skipped kept =
    let not_above : x.encoding ≤ m = ltb-false _ _ a in
    rw (a, i) (skipped (omega arith))

found-after : (m e : ℕ) (gs : List Glyph) → DontFall m gs → e ≢ m → find (has_encoding e) (kept_from (Some m) gs) ≡ find (has_encoding e) gs
found-after m e [] fall ne = refl
found-after m e (x ∷ xs) fall ne =
    found-cons m e x xs (nat_lt m x.encoding) (x.encoding == e) refl refl ne fall.0
    (λ same. found-after m e xs (subst (λ n. DontFall n xs) same fall.1) ne)
    (λ other. found-after x.encoding e xs fall.1 other)

found-first : (e : ℕ) (g : Glyph) (gs : List Glyph) (is : Bool) → (g.encoding == e) ≡ is →
    (e ≢ g.encoding → find (has_encoding e) (kept_from (Some g.encoding) gs) ≡ find (has_encoding e) gs) →
    find (has_encoding e) (g ∷ kept_from (Some g.encoding) gs) ≡ find (has_encoding e) (g ∷ gs)
found-first e g gs true i others = rw i refl
found-first e g gs false i others = rw i (others (λ same. eqb-false _ _ i (sym same)))

-- the firsts of glyphs whose encodings don't fall are kept
kept-firsts : (glyphs : List Glyph) → IsNonDecreasingBy (λ (glyph : Glyph). glyph.encoding) glyphs → AreFirstsOf glyphs (kept_from None glyphs)
kept-firsts [] up = record { rising = λ i j d lt within. absurd (omega arith); firsts = λ e. refl }
kept-firsts (g ∷ gs) up = record {
  rising = let kept = kept-after g.encoding gs in AllPairs-cons (λ (a : Glyph) (b : Glyph). a.encoding < b.encoding) g _ kept.above kept.rising;
  firsts = λ e. found-first e g gs (g.encoding == e) refl (λ other. found-after g.encoding e gs (dont-fall g gs up) other);
}

-- no more are kept than there are
kept-fewer_cons : (last : Option ℕ) (g : Glyph) (gs : List Glyph) (t : Bool) → follows last g.encoding ≡ t → length (kept_from (Some g.encoding) gs) ≤ length gs → length (kept_from last gs) ≤ length gs →
    length (kept_from last (g ∷ gs)) ≤ length (g ∷ gs)
kept-fewer_cons last g gs true e kept skipped = rw e (omega arith)
kept-fewer_cons last g gs false e kept skipped = rw e (omega arith)

kept-fewer : (last : Option ℕ) (gs : List Glyph) → length (kept_from last gs) ≤ length gs
kept-fewer last [] = omega arith
kept-fewer last (g ∷ gs) = kept-fewer_cons last g gs (follows last g.encoding) refl (kept-fewer (Some g.encoding) gs) (kept-fewer last gs)

pub kept-are_fewer : (glyphs kept left : List Glyph) (last : Option ℕ) → kept ++ kept_from last left ≡ kept_from None glyphs → length kept ≤ length glyphs
kept-are_fewer glyphs kept left last same = omega (arith, kept-fewer None glyphs, ap length same, length-append kept (kept_from last left))

-- once no glyph is left, those that are kept are the firsts
pub all-kept : (glyphs kept left : List Glyph) (last : Option ℕ) → IsNonDecreasingBy (λ (glyph : Glyph). glyph.encoding) glyphs →
    kept ++ kept_from last left ≡ kept_from None glyphs → length left ≡ 0 → AreFirstsOf glyphs kept
all-kept glyphs kept [] last up same none = subst (AreFirstsOf glyphs) (sym same ∙ append-nil kept) (kept-firsts glyphs up)
all-kept glyphs kept (g ∷ gs) last up same none = absurd (omega arith)

-- the first element that passes is the first of those that pass
abbrev first : List Glyph → Option Glyph
first [] = None
first (g ∷ gs) = Some g

find-cons : (p : Glyph → Bool) (g : Glyph) (gs : List Glyph) (t : Bool) → p g ≡ t → find p gs ≡ first (filter p gs) → find p (g ∷ gs) ≡ first (filter p (g ∷ gs))
find-cons p g gs true e others = rw e refl
find-cons p g gs false e others = rw e others

find-filter : (p : Glyph → Bool) (gs : List Glyph) → find p gs ≡ first (filter p gs)
find-filter p [] = refl
find-filter p (g ∷ gs) = find-cons p g gs (p g) refl (find-filter p gs)

find-same : (p q : Glyph → Bool) (gs : List Glyph) → ((g : Glyph) → p g ≡ q g) → find p gs ≡ find q gs
find-same p q [] same = refl
find-same p q (g ∷ gs) same = rw (same g, find-same p q gs same) refl

-- one glyph is before another by its encoding
abbrev is_before : Glyph → Glyph → Bool
is_before a b = is_lt (nat_cmp a.encoding b.encoding)

ties-are : (x g : Glyph) → ties is_before x g ≡ has_encoding x.encoding g
ties-are x g = grind (arith, nat_tests)

-- a stable sort leaves the first glyph of each encoding the first
firsts-stay : (old new : List Glyph) → IsStableBy is_before old new → (e : ℕ) → find (has_encoding e) new ≡ find (has_encoding e) old
firsts-stay old new stable e =
    let x : Glyph = record { encoding = e; advance = 0; bounds = record { width = 0; height = 0; xoff = pos 0; yoff = pos 0 }; rows = [] } in
    sym (find-same (ties is_before x) (has_encoding e) new (ties-are x))
    ∙ find-filter (ties is_before x) new
    ∙ ap first (stable x)
    ∙ sym (find-filter (ties is_before x) old)
    ∙ find-same (ties is_before x) (has_encoding e) old (ties-are x)

-- the firsts of glyphs that are sorted stably
pub sorted-firsts : (old new kept : List Glyph) → IsStableBy is_before old new → AreFirstsOf new kept → AreFirstsOf old kept
sorted-firsts old new kept stable h = record { rising = h.rising; firsts = λ e. h.firsts e ∙ firsts-stay old new stable e }

-- a glyph whose encodings rise is the first of its encoding
here-cons : (x g : Glyph) (xs : List Glyph) → x.encoding < g.encoding → find (has_encoding g.encoding) xs ≡ Some g → find (has_encoding g.encoding) (x ∷ xs) ≡ Some g
here-cons x g xs lt h = let other : (x.encoding == g.encoding) ≡ false = grind (arith, nat_tests) in rw other h

pub rising-find : (xs : List Glyph) → IsRising xs → (k : ℕ) (d : Glyph) → k < length xs → find (has_encoding (get_or xs k d).encoding) xs ≡ Some (get_or xs k d)
rising-find [] rising k d within = absurd (omega arith)
rising-find (x ∷ xs) rising zero d within = let same : (x.encoding == x.encoding) ≡ true = grind (arith, nat_tests) in rw same refl
rising-find (x ∷ xs) rising (suc k) d within =
    here-cons x (get_or xs k d) xs (rising 0 (suc k) d (omega arith) within) (rising-find xs (λ i j e lt w. rising (suc i) (suc j) e (omega arith) (omega arith)) k d (omega arith))

-- what holds of each glyph holds of one that is found
found-all-cons : (P : Glyph → Type 0) (p : Glyph → Bool) (x g : Glyph) (xs : List Glyph) (t : Bool) → p x ≡ t → P x → (find p xs ≡ Some g → P g) → find p (x ∷ xs) ≡ Some g → P g
found-all-cons P p x g xs true e px others h = subst P (same_Some x g (rw e at h)) px
found-all-cons P p x g xs false e px others h = others (rw e at h)

found-all : (P : Glyph → Type 0) (p : Glyph → Bool) (xs : List Glyph) (g : Glyph) → All P xs → find p xs ≡ Some g → P g
found-all P p [] g all h = absurd cc
found-all P p (x ∷ xs) g all h = found-all-cons P p x g xs (p x) refl (All-head P x xs all) (found-all P p xs g (All-tail P x xs all)) h

pub firsts-all : (P : Glyph → Type 0) (file glyphs : List Glyph) → AreFirstsOf file glyphs → All P file → All P glyphs
firsts-all P file glyphs h all = λ k d within.
    let g = get_or glyphs k d in
    found-all P (has_encoding g.encoding) file g all (sym (h.firsts g.encoding) ∙ rising-find glyphs h.rising k d within)
