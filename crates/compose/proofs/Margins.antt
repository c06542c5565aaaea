-- The margin of a layer is the furthest that its styles paint, one after the other.
use Rattle.std.proofs.Common.{◌≡◌, ◌∙◌, ℕ, ◌+◌, ◌<◌, ◌≤◌, max, List, [], ◌∷◌, ◌++◌, length, drop, get_or, sym, ap, arith}
use Rattle.std.proofs.Math.Nat.{le-max_left, le-max_right, max-le, zero-max}
use Rattle.std.proofs.lemmas.List.{at_drop_more}
use Rattle.std.specs.List.{flat_map}
use Rattle.mapdefs.specs.declared.class.ClassFields.{ClassFields}
use Rattle.mapdefs.specs.declared.style.StyleFields.{StyleFields}
use Rattle.mapdefs.specs.declared.symbol.Symbol.{Symbol}
use Rattle.compose.specs.Near.{furthest, reach_of}

max-assoc : (a b c : ℕ) → max (max a b) c ≡ max a (max b c)
max-assoc a b c =
    let most : max (max a b) c ≤ max a (max b c) =
    max-le (max-le (le-max_left a (max b c)) (omega (arith, le-max_left b c, le-max_right a (max b c)))) (omega (arith, le-max_right b c, le-max_right a (max b c))) in
    let least : max a (max b c) ≤ max (max a b) c =
    max-le (omega (arith, le-max_left a b, le-max_left (max a b) c)) (max-le (omega (arith, le-max_right a b, le-max_left (max a b) c)) (le-max_right (max a b) c)) in
    omega (arith, most, least)

-- the furthest of two lists of styles
furthest-append : (factor : ℕ) (symbols : List Symbol) (xs ys : List StyleFields) → furthest factor symbols (xs ++ ys) ≡ max (furthest factor symbols xs) (furthest factor symbols ys)
furthest-append factor symbols [] ys = sym (zero-max (furthest factor symbols ys))
furthest-append factor symbols (x ∷ xs) ys =
    ap (λ n. max (reach_of factor symbols x) n) (furthest-append factor symbols xs ys) ∙ sym (max-assoc (reach_of factor symbols x) (furthest factor symbols xs) (furthest factor symbols ys))

-- the styles of some classes
abbrev pub styles_of : List ClassFields → List StyleFields
styles_of classes = flat_map (λ (class : ClassFields). class.styles) classes

-- those of one class more
pub class-step : (factor : ℕ) (symbols : List Symbol) (classes : List ClassFields) (i found new all : ℕ) (class : ClassFields) → i < length classes → class ≡ get_or classes i class →
    new ≡ max found (furthest factor symbols class.styles) → max found (furthest factor symbols (styles_of (drop i classes))) ≡ all →
    max new (furthest factor symbols (styles_of (drop (i + 1) classes))) ≡ all
class-step factor symbols classes i found new all class h is more before =
    ap (λ n. max n (furthest factor symbols (styles_of (drop (i + 1) classes)))) more
    ∙ (max-assoc found (furthest factor symbols class.styles) (furthest factor symbols (styles_of (drop (i + 1) classes)))
    ∙ (sym (ap (λ n. max found n) (furthest-append factor symbols class.styles (styles_of (drop (i + 1) classes))))
    ∙ (ap (λ (c : ClassFields). max found (furthest factor symbols (c.styles ++ styles_of (drop (i + 1) classes)))) is
    ∙ (sym (ap (λ n. max found n) (at_drop_more (λ cs. furthest factor symbols (styles_of cs)) classes i class h)) ∙ before))))
