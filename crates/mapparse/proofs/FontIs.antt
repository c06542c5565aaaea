-- The font of a file is the one with its glyphs by their encodings.
use Rattle.std.proofs.Common.{◌≡◌, ℕ, suc, ◌<◌, ◌≤◌, Bool, true, false, List, [], ◌∷◌, Option, Some, Result, Ok, Err, refl, sym, ◌∙◌, ap, arith, All}
use Rattle.std.specs.Prelude.{◌==◌, find, nat_lt, if◌then◌else◌}
use Rattle.std.specs.Result.{IsOkAnd, IfErr}
use Rattle.std.proofs.lemmas.Bool.Decides.{nat_tests}
use Rattle.std.proofs.lemmas.Bool.{eqb-true, ltb-true, ltb-false}
use Rattle.std.proofs.lemmas.List.Elements.{All-nil, All-cons, All-weaker}
use Rattle.std.proofs.lemmas.List.Kept.{AllPairs-cons}
use Rattle.mapdefs.specs.declared.font.FontFields.{FontFields}
use Rattle.mapdefs.specs.declared.font.Glyph.{Glyph}
use Rattle.mapdefs.specs.FontLimits.{IsRising}
use Rattle.bdffont.specs.declared.fault.FontError.{FontError}
use Rattle.bdffont.specs.declared.fault.FontError.TheVariants.{Fault as FaultOf, NoMemory}
use Rattle.bdffont.specs.declared.fault.FontFault.{FontFault}
use Rattle.bdffont.specs.File.{has_encoding, IsFontOf, IsErrorOf}
use Rattle.bdffont.proofs.OneFont.{file-has-one-font}
use Rattle.mapparse.specs.Fonts.{with_glyph, by_encoding, font_by, IsFontErrorOf}

-- what holds of a glyph and of others holds of all of them together
all-with : (P : Glyph → Type 0) (glyph : Glyph) (glyphs : List Glyph) → P glyph → All P glyphs → All P (with_glyph glyph glyphs)
all-with P glyph [] p all = All-cons P glyph [] p (All-nil P)
all-with P glyph (other ∷ others) p all =
    let rest : All P others = λ k d within. all (suc k) d (omega arith) in
    of (all-with P glyph others p rest) rest (nat_lt glyph.encoding other.encoding) (glyph.encoding == other.encoding)
  where
    of : All P (with_glyph glyph others) → All P others → (above same : Bool) → All P (if above then glyph ∷ other ∷ others else if same then glyph ∷ others else other ∷ with_glyph glyph others)
    of added rest true same = All-cons P glyph (other ∷ others) p all
    of added rest false true = All-cons P glyph others p rest
    of added rest false false = All-cons P other (with_glyph glyph others) (all 0 other (omega arith)) added

-- glyphs by rising encodings are so with one more
rising-with : (glyph : Glyph) (glyphs : List Glyph) → IsRising glyphs → IsRising (with_glyph glyph glyphs)
rising-with glyph [] rising = AllPairs-cons (λ (a : Glyph) (b : Glyph). a.encoding < b.encoding) glyph [] (All-nil (λ (b : Glyph). glyph.encoding < b.encoding)) rising
rising-with glyph (other ∷ others) rising =
    let rest : IsRising others = λ i j d lt within. rising (suc i) (suc j) d (omega arith) (omega arith) in
    let later : All (λ (b : Glyph). other.encoding < b.encoding) others = λ k d within. rising 0 (suc k) d (omega arith) (omega arith) in
    of (rising-with glyph others rest) rest later (nat_lt glyph.encoding other.encoding) (glyph.encoding == other.encoding) refl refl
  where
    of : IsRising (with_glyph glyph others) → IsRising others → All (λ (b : Glyph). other.encoding < b.encoding) others → (above same : Bool) → nat_lt glyph.encoding other.encoding ≡ above → (glyph.encoding == other.encoding) ≡ same →
        IsRising (if above then glyph ∷ other ∷ others else if same then glyph ∷ others else other ∷ with_glyph glyph others)
    of added rest later true same a s =
        let lt : glyph.encoding < other.encoding = ltb-true _ _ a in
        AllPairs-cons (λ (x : Glyph) (y : Glyph). x.encoding < y.encoding) glyph (other ∷ others)
        (All-cons (λ (b : Glyph). glyph.encoding < b.encoding) other others lt
        (All-weaker (λ (b : Glyph). other.encoding < b.encoding) (λ (b : Glyph). glyph.encoding < b.encoding) (λ b h. omega arith) others later))
        rising
    of added rest later false true a s =
        let is : glyph.encoding ≡ other.encoding = eqb-true _ _ s in
        AllPairs-cons (λ (x : Glyph) (y : Glyph). x.encoding < y.encoding) glyph others
        (All-weaker (λ (b : Glyph). other.encoding < b.encoding) (λ (b : Glyph). glyph.encoding < b.encoding) (λ b h. omega arith) others later)
        rest
    of added rest later false false a s =
        let least : other.encoding ≤ glyph.encoding = ltb-false _ _ a in
        let below : other.encoding < glyph.encoding = grind (arith, nat_tests) in
        AllPairs-cons (λ (x : Glyph) (y : Glyph). x.encoding < y.encoding) other (with_glyph glyph others)
        (all-with (λ (b : Glyph). other.encoding < b.encoding) glyph others below later)
        added

-- a search for its encoding finds it, and one for another encoding finds the same as without it
find-with : (e : ℕ) (glyph : Glyph) (glyphs : List Glyph) →
    find (has_encoding e) (with_glyph glyph glyphs) ≡ (if has_encoding e glyph then Some glyph else find (has_encoding e) glyphs)
find-with e glyph [] = refl
find-with e glyph (other ∷ others) =
    of (find-with e glyph others) (nat_lt glyph.encoding other.encoding) (glyph.encoding == other.encoding) (glyph.encoding == e) (other.encoding == e) refl refl refl
  where
    of : find (has_encoding e) (with_glyph glyph others) ≡ (if has_encoding e glyph then Some glyph else find (has_encoding e) others) →
        (above same own its : Bool) → (glyph.encoding == other.encoding) ≡ same → (glyph.encoding == e) ≡ own → (other.encoding == e) ≡ its →
        find (has_encoding e) (if above then glyph ∷ other ∷ others else if same then glyph ∷ others else other ∷ with_glyph glyph others)
        ≡ (if own then Some glyph else (if its then Some other else find (has_encoding e) others))
    of tail true same own its s o i = rw (o, i) refl
    of tail false true true its s o i = rw o refl
    of tail false true false true s o i = absurd (grind (arith, nat_tests))
    of tail false true false false s o i = rw o refl
    of tail false false true true s o i = absurd (grind (arith, nat_tests))
    of tail false false true false s o i = rw i (tail ∙ rw o refl)
    of tail false false false true s o i = rw i refl
    of tail false false false false s o i = rw i (tail ∙ rw o refl)

rising-all : (glyphs : List Glyph) → IsRising (by_encoding glyphs)
rising-all [] = λ i j d lt within. absurd (omega arith)
rising-all (glyph ∷ glyphs) = rising-with glyph (by_encoding glyphs) (rising-all glyphs)

find-all : (e : ℕ) (glyphs : List Glyph) → find (has_encoding e) (by_encoding glyphs) ≡ find (has_encoding e) glyphs
find-all e [] = refl
find-all e (glyph ∷ glyphs) =
    find-with e glyph (by_encoding glyphs)
    ∙ ap (λ (found : Option Glyph). if has_encoding e glyph then Some glyph else found) (find-all e glyphs)

-- the font of a file is the font by its definition
font-is : (file font : FontFields) → IsFontOf file font → font ≡ record file { glyphs = by_encoding file.glyphs }
font-is file font of_file =
    file-has-one-font file font (record file { glyphs = by_encoding file.glyphs }) of_file
    (record { side = refl; bounds = refl; glyphs = record { rising = rising-all file.glyphs; firsts = λ e. find-all e file.glyphs } })

pub font-read : (read : Result FontFields FontFault) (font : FontFields) → IsOkAnd read (λ file. IsFontOf file font) → font_by read ≡ Ok font
font-read (Ok file) font is = ap (λ f. Ok f) (sym (font-is file font is))
font-read (Err fault) font is = absurd is

pub error-read : (read : Result FontFields FontFault) (error : FontError) → IsErrorOf read error → IsFontErrorOf (font_by read) error
error-read read (FaultOf fault) is = ap font_by is
error-read read NoMemory is = tt

pub err-weaker : {X Y : Type 0} (r : Result X Y) (P Q : Y → Type 0) → ((y : Y) → P y → Q y) → IfErr r P → IfErr r Q
err-weaker (Ok x) P Q f h = tt
err-weaker (Err y) P Q f h = f y h
