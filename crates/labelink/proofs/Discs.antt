-- What passes at a step of a disc.
use Rattle.std.proofs.Common.{◌≡◌, ◌∙◌, ℕ, zero, suc, ◌+◌, ◌*◌, ◌<◌, ◌≤◌, Bool, true, false, ◌&&◌, ◌||◌, List, [], ◌∷◌, map, refl, sym, ap, inl, inr, ⊎_elim, arith}
use Rattle.std.specs.List.{filter, flat_map, list_any}
use Rattle.std.specs.Prelude.{unsigned_abs}
use Rattle.std.proofs.lemmas.Bool.{cases_Bool, cases_lt, leb-true, le-leb}
use Rattle.std.proofs.lemmas.Int.{ints}
use Rattle.std.proofs.lemmas.List.Folds.{list_any-append}
use Rattle.std.proofs.lemmas.Nat.{mul-le, mul-lt}
use lib.IntN.{ℤ, pos, negsuc, neg_ℤ}
use Rattle.geom.specs.Device.{PixelValue}
use Rattle.labelink.specs.Disc.{disc, is_within, numbers_to, row_of_disc, square}

-- nothing passes where no element does
pub any-none : {X : Type 0} (p : X → Bool) (xs : List X) → ((x : X) → p x ≡ false) → list_any p xs ≡ false
any-none p [] none = refl
any-none p (x ∷ xs) none = rw (none x, any-none p xs none) refl

pub any-flat_map : {X Y : Type 0} (p : Y → Bool) (f : X → List Y) (xs : List X) → list_any p (flat_map f xs) ≡ list_any (λ x. list_any p (f x)) xs
any-flat_map p f [] = refl
any-flat_map p f (x ∷ xs) = list_any-append p (f x) (flat_map f xs) ∙ ap (λ b. list_any p (f x) || b) (any-flat_map p f xs)

any-kept : {X Y : Type 0} (p : Y → Bool) (g : X → Y) (q : X → Bool) (xs : List X) → list_any p (map g (filter q xs)) ≡ list_any (λ x. q x && p (g x)) xs
any-kept p g q [] = refl
any-kept p g q (x ∷ xs) = elim (cases_Bool (q x)) [
  | inl is ↦ rw (is, any-kept p g q xs) refl
  | inr is ↦ rw (is, any-kept p g q xs) refl
]

any-first : (a b : Bool) → a ≡ true → (a || b) ≡ true
any-first a b e = rw e refl

any-later : (a b : Bool) → b ≡ true → (a || b) ≡ true
any-later true b e = refl
any-later false b e = e

-- a number from -n to n is one of these
number-of : (q : ℤ → Bool) (n : ℕ) (z : ℤ) → unsigned_abs z ≤ n → q z ≡ true → list_any q (numbers_to n) ≡ true
unfolding numbers_to
number-of q zero z small is =
    let same : z ≡ pos 0 = omega (arith, ints, small) in
    any-first (q (pos 0)) false (rw same at is)
number-of q (suc n) (pos k) small is = ⊎_elim
    (λ (lt : k < suc n). any-later (q (neg_ℤ (pos (suc n)))) _ (any-later (q (pos (suc n))) _ (number-of q n (pos k) (omega (arith, ints, lt)) is)))
    (λ (ge : suc n ≤ k).
    let same : k ≡ suc n = omega (arith, ints, ge, small) in
    any-later (q (neg_ℤ (pos (suc n)))) _ (any-first (q (pos (suc n))) _ (rw same at is)))
    (cases_lt k (suc n))
number-of q (suc n) (negsuc k) small is = ⊎_elim
    (λ (lt : k < n). any-later (q (neg_ℤ (pos (suc n)))) _ (any-later (q (pos (suc n))) _ (number-of q n (negsuc k) (omega (arith, ints, lt)) is)))
    (λ (ge : n ≤ k).
    let same : k ≡ n = omega (arith, ints, ge, small) in
    any-first (q (neg_ℤ (pos (suc n)))) _ (rw same at is))
    (cases_lt k n)

-- of two squares whose sum is at most another, neither is greater
pub side-within : (a b r : ℕ) → (a * a + b * b) ≤ (r * r) → a ≤ r
side-within a b r h = ⊎_elim
    (λ (lt : r < a). let more : (r * r) < (a * a) = mul-lt r r a a lt lt in absurd (omega (arith, h, more)))
    (λ (ge : a ≤ r). ge)
    (cases_lt r a)

pub across-within : (r : ℕ) (across down : ℤ) → is_within r across down ≡ true → unsigned_abs across ≤ r
across-within r across down is = side-within (unsigned_abs across) (unsigned_abs down) r (leb-true (square across + square down) (r * r) is)

pub down-within : (r : ℕ) (across down : ℤ) → is_within r across down ≡ true → unsigned_abs down ≤ r
down-within r across down is =
    let le : (square across + square down) ≤ (r * r) = leb-true (square across + square down) (r * r) is in
    side-within (unsigned_abs down) (unsigned_abs across) r (omega (arith, le))

row-any : (p : PixelValue → Bool) (r : ℕ) (down : ℤ) → list_any p (row_of_disc r down) ≡ list_any (λ across. is_within r across down && p (record { i = across; j = down })) (numbers_to r)
row-any p r down = any-kept p (λ across. record { i = across; j = down }) (λ across. is_within r across down) (numbers_to r)

disc-any : (p : PixelValue → Bool) (r : ℕ) → list_any p (disc r) ≡ list_any (λ down. list_any p (row_of_disc r down)) (numbers_to r)
unfolding disc
disc-any p r = any-flat_map p (row_of_disc r) (numbers_to r)

-- where something passes at one step, some step of the disc passes
pub disc-some : (p : PixelValue → Bool) (r : ℕ) (across down : ℤ) → is_within r across down ≡ true → p (record { i = across; j = down }) ≡ true → list_any p (disc r) ≡ true
disc-some p r across down within is =
    disc-any p r
    ∙ number-of (λ d. list_any p (row_of_disc r d)) r down (down-within r across down within)
    (row-any p r down
    ∙ number-of (λ a. is_within r a down && p (record { i = a; j = down })) r across (across-within r across down within) (rw (within, is) refl))

-- and where nothing does at any, none of the disc passes
pub disc-none : (p : PixelValue → Bool) (r : ℕ) → ((across down : ℤ) → is_within r across down ≡ true → p (record { i = across; j = down }) ≡ false) → list_any p (disc r) ≡ false
disc-none p r none =
    disc-any p r
    ∙ any-none (λ d. list_any p (row_of_disc r d)) (numbers_to r)
    (λ d. row-any p r d ∙ any-none (λ a. is_within r a d && p (record { i = a; j = d })) (numbers_to r) (λ a. both (is_within r a d) (p (record { i = a; j = d })) (none a d)))
  where
    both : (b c : Bool) → (b ≡ true → c ≡ false) → (b && c) ≡ false
    both true c h = h refl
    both false c h = refl

-- a wider disc has the steps of a narrower one
pub within-more : (r more : ℕ) (across down : ℤ) → is_within r across down ≡ true → is_within (r + more) across down ≡ true
within-more r more across down is =
    let le : (square across + square down) ≤ (r * r) = leb-true (square across + square down) (r * r) is in
    let wider : (r * r) ≤ ((r + more) * (r + more)) = mul-le r r (r + more) (r + more) (omega arith) (omega arith) in
    le-leb (square across + square down) ((r + more) * (r + more)) (omega (arith, le, wider))

-- what doesn't pass where something else doesn't
pub refuted : (a b : Bool) → (a ≡ true → b ≡ true) → b ≡ false → a ≡ false
refuted false b then' missed = refl
refuted true b then' missed = sym (then' refl) ∙ missed

pub implied : (a b : Bool) → (b ≡ false → a ≡ false) → a ≡ true → b ≡ true
implied a true then' hit = refl
implied a false then' hit = sym (then' refl) ∙ hit

pub disc-more : (p : PixelValue → Bool) (r more : ℕ) → list_any p (disc r) ≡ true → list_any p (disc (r + more)) ≡ true
disc-more p r more is = implied (list_any p (disc r)) (list_any p (disc (r + more)))
    (λ missed. disc-none p r
    (λ across down within. refuted (p (record { i = across; j = down })) (list_any p (disc (r + more)))
    (λ hit. disc-some p (r + more) across down (within-more r more across down within) hit) missed))
    is
