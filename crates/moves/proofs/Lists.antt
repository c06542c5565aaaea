-- Lists of which each element is moved.
use Rattle.std.proofs.Common.{◌≡◌, ◌∙◌, Bool, List, [], ◌∷◌, ◌++◌, map, refl, sym, ap}
use Rattle.std.proofs.lemmas.List.{map-append}
use Rattle.std.specs.List.{flat_map, list_any}

-- moved elements give what the elements give, moved
pub map-moved : {A B C D : Type 0} (f : B → D) (g : A → B) (h : C → D) (k : A → C) → ((x : A) → f (g x) ≡ h (k x)) →
    (xs : List A) → map f (map g xs) ≡ map h (map k xs)
map-moved f g h k same [] = refl
map-moved f g h k same (x ∷ xs) = rw (same x, map-moved f g h k same xs) refl

pub flat_map-moved : {A B C D : Type 0} (f : B → List D) (g : A → B) (h : C → D) (k : A → List C) → ((x : A) → f (g x) ≡ map h (k x)) →
    (xs : List A) → flat_map f (map g xs) ≡ map h (flat_map k xs)
flat_map-moved f g h k same [] = refl
flat_map-moved f g h k same (x ∷ xs) =
    ap (λ ys. ys ++ flat_map f (map g xs)) (same x)
    ∙ (ap (λ ys. map h (k x) ++ ys) (flat_map-moved f g h k same xs) ∙ sym (map-append h (k x) (flat_map k xs)))

pub flat_map-each : {A C D : Type 0} (f : A → List D) (h : C → D) (k : A → List C) → ((x : A) → f x ≡ map h (k x)) →
    (xs : List A) → flat_map f xs ≡ map h (flat_map k xs)
flat_map-each f h k same [] = refl
flat_map-each f h k same (x ∷ xs) =
    ap (λ ys. ys ++ flat_map f xs) (same x)
    ∙ (ap (λ ys. map h (k x) ++ ys) (flat_map-each f h k same xs) ∙ sym (map-append h (k x) (flat_map k xs)))

-- some moved element passes where some element passes the other test
pub any-moved : {A B : Type 0} (p : B → Bool) (g : A → B) (q : A → Bool) → ((x : A) → p (g x) ≡ q x) →
    (xs : List A) → list_any p (map g xs) ≡ list_any q xs
any-moved p g q same [] = refl
any-moved p g q same (x ∷ xs) = rw (same x, any-moved p g q same xs) refl
