-- Pieces that go out one after the other, of which the last may be gathered still.
use Rattle.std.proofs.Common.{◌≡◌, ◌∙◌, ℕ, ◌+◌, ◌<◌, List, [], ◌∷◌, ◌++◌, Option, length, get_or, take, drop, sym, ap, subst, append_assoc, append-nil, take-append-drop}
use Rattle.std.specs.List.{flat_map}
use Rattle.std.proofs.lemmas.Grind.{flat_map-append}
use Rattle.std.proofs.lemmas.List.{drop_more, take_more}
use Rattle.streams.specs.Sent.{IsSent, IsCutSomewhere}
use Rattle.streams.proofs.Sending.{sent-cut, cut-more}

-- the texts of some elements, then that of the next one, and then those of the others
texts-at : {X : Type 0} (f : X → List ℕ) (xs : List X) (i : ℕ) (d : X) → i < length xs →
    flat_map f xs ≡ flat_map f (take i xs) ++ (f (get_or xs i d) ++ flat_map f (drop (i + 1) xs))
texts-at f xs i d h =
    ap (flat_map f) (sym (take-append-drop i xs) ∙ ap (λ ys. take i xs ++ ys) (drop_more xs i d h))
    ∙ flat_map-append f (take i xs) (get_or xs i d ∷ drop (i + 1) xs)

-- the texts of one more element
texts-more : {X : Type 0} (f : X → List ℕ) (xs : List X) (i : ℕ) (d : X) → i < length xs →
    flat_map f (take i xs) ++ f (get_or xs i d) ≡ flat_map f (take (i + 1) xs)
texts-more f xs i d h =
    sym (ap (flat_map f) (take_more xs i d h) ∙ flat_map-append f (take i xs) (get_or xs i d ∷ []) ∙ ap (λ l. flat_map f (take i xs) ++ l) (append-nil (f (get_or xs i d))))

-- a further piece went out or is gathered
pub gathered-next : {X : Type 0} (f : X → List ℕ) (xs : List X) (i : ℕ) (d : X) (text more old new : List ℕ) → i < length xs →
    text ++ old ≡ flat_map f (take i xs) → more ++ new ≡ old ++ f (get_or xs i d) → (text ++ more) ++ new ≡ flat_map f (take (i + 1) xs)
gathered-next f xs i d text more old new h is e =
    let piece = f (get_or xs i d) in
    append_assoc text more new ∙ ap (λ l. text ++ l) e ∙ sym (append_assoc text old piece) ∙ ap (λ l. l ++ piece) is ∙ texts-more f xs i d h

-- what was sent, and then a prefix of what is gathered and the next piece: so a prefix of all went out
pub pieces-cut : {S X : Type 0} (held : S → Option (List ℕ)) (taken : S → ℕ) (a b c : S) (f : X → List ℕ) (xs : List X) (i : ℕ) (d : X) (text gathered : List ℕ) → i < length xs →
    text ++ gathered ≡ flat_map f (take i xs) → IsSent held taken a text b → IsCutSomewhere held taken b (gathered ++ f (get_or xs i d)) c → IsCutSomewhere held taken a (flat_map f xs) c
pieces-cut held taken a b c f xs i d text gathered h is sent cut =
    let piece = f (get_or xs i d) in
    let later = flat_map f (drop (i + 1) xs) in
    let all : (text ++ (gathered ++ piece)) ++ later ≡ flat_map f xs =
    ap (λ l. l ++ later) (sym (append_assoc text gathered piece) ∙ ap (λ l. l ++ piece) is) ∙ append_assoc (flat_map f (take i xs)) piece later ∙ sym (texts-at f xs i d h) in
    subst (λ (l : List ℕ). IsCutSomewhere held taken a l c) all (cut-more held taken a c (text ++ (gathered ++ piece)) later (sent-cut held taken a b c text (gathered ++ piece) sent cut))
