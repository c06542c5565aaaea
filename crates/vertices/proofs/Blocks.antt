-- The blocks of a part, vertex by vertex and one after another.
use Rattle.std.proofs.Common.{◌≡◌, ◌∙◌, ℕ, ◌+◌, ◌*◌, ◌<◌, ◌≤◌, List, [], ◌∷◌, take, drop, suc, add-one, length, get_or, refl, sym, ap, arith, zero}
use Rattle.std.proofs.Math.Seq.{drop-cons}
use Rattle.std.proofs.lemmas.List.{drop-drop, length-drop}
use Rattle.geom.specs.World.{Place}
use Rattle.vertices.specs.Chain.{chain_end}

pub rest-next : (rest : List Place) (i : ℕ) (to : Place) → i < length rest → to ≡ get_or rest i to → drop i rest ≡ to ∷ drop (i + 1) rest
rest-next rest i to below e = rw (add-one) (drop-cons rest i to below ∙ ap (λ x. x ∷ drop (suc i) rest) (sym e))

-- so many vertices on, a chain begins with the last of those
pub chain-drop : {X : Type 0} (n : ℕ) (from : X) (rest : List X) → n ≤ length rest → chain_end from (take n rest) ∷ drop n rest ≡ drop n (from ∷ rest)
chain-drop zero from rest h = refl
chain-drop (suc n) from [] h = absurd (omega (arith, h))
chain-drop (suc n) from (to ∷ rest) h = chain-drop n to rest (omega (arith, h))

-- the next block of a part begins with the last vertex of this one
pub block-next : {X : Type 0} (vertices : List X) (k : ℕ) (from end : X) (rest behind : List X) → 32 * k < length vertices → from ∷ rest ≡ drop (32 * k) vertices →
    end ≡ chain_end from (take 32 rest) → behind ≡ drop 32 rest → 32 * (k + 1) < length vertices → end ∷ behind ≡ drop (32 * (k + 1)) vertices
block-next vertices k from end rest behind here e f g next =
    let enough : 32 ≤ length rest = omega (arith, next, ap length e, length-drop (32 * k) vertices) in
    let on : 32 * k + 32 ≡ 32 * (k + 1) = omega arith in
    ap (λ x. x ∷ behind) f ∙ (ap (λ xs. chain_end from (take 32 rest) ∷ xs) g ∙ (chain-drop 32 from rest enough ∙ (ap (drop 32) e ∙ (drop-drop 32 (32 * k) vertices ∙ ap (λ n. drop n vertices) on))))

-- the last of some vertices is the end of the chain along them
pub last-end : {X : Type 0} (n : ℕ) (from : X) (rest : List X) (last : X) → n + 1 ≡ length rest → last ≡ get_or rest n last → last ≡ chain_end from rest
last-end n from [] last e is = absurd (omega (arith, e))
last-end zero from (to ∷ []) last e is = is
last-end zero from (to ∷ next ∷ rest) last e is = absurd (omega (arith, e))
last-end (suc n) from (to ∷ rest) last e is = last-end n to rest last (omega (arith, e)) is

pub empty-of : {X : Type 0} (xs : List X) → length xs ≡ 0 → xs ≡ []
empty-of [] e = refl
empty-of (x ∷ xs) e = absurd (omega arith)
