-- The batches that an entry shows begin with those that its reader knew.
use Rattle.std.proofs.Common.{◌≡◌, ◌∙◌, ◌<◌, ◌≤◌, ◌⊎◌, ℕ, Bool, false, List, Option, None, Some, IfSome, length, inl, inr, sym, ap, subst, arith}
use Rattle.std.proofs.lemmas.List.{length-append}
use mathlib.Core.List.{IsPrefix}
use Rattle.history.proofs.Prefixes.{prefix_whole}
use Rattle.sharing.proofs.Prefixes.{prefix_self}
use Rattle.mapshare.specs.Reader.{ReaderValue, entered}

-- a prefix that isn't shorter than the known one, and of which the longer is one of the two, begins with it
pub known_begins : (prefix known longer : List (List ℕ)) → (longer ≡ prefix) ⊎ (longer ≡ known) → IsPrefix prefix longer → IsPrefix known longer → length known ≤ length prefix → IsPrefix known prefix
known_begins prefix known longer (inl e) p q le = subst (λ l. IsPrefix known l) e q
known_begins prefix known longer (inr e) p q le =
    let same : prefix ≡ known = prefix_whole prefix known (subst (λ l. IsPrefix prefix l) e p) le in
    subst (λ l. IsPrefix known l) (sym same) (prefix_self known)

-- a reader, by what it knows, what it has seen and whether it may enter
abbrev pub of_reader : List (List ℕ) → List (List ℕ) → Bool → ReaderValue
of_reader known seen is_free = record { known = known; seen = seen; is_free = is_free }

-- a reader after an entry knows and has seen the batches that the entry shows
pub away_entered : (known seen shown : List (List ℕ)) → seen ≡ known → known ≡ shown → of_reader known seen false ≡ entered shown
away_entered known seen shown same is = ap (λ z. of_reader known z false) same ∙ ap entered is

-- a prefix of the shown batches is no longer than they are
pub prefix_length : (xs ys : List (List ℕ)) → IsPrefix xs ys → length xs ≤ length ys
prefix_length xs ys p = omega (arith, length-append xs p.0, ap length p.1)

-- where a reader knows more than is shown, it knows more than it was shown
pub behind : (seen before prefix known : List (List ℕ)) → IsPrefix seen before → IsPrefix before prefix → length prefix < length known → length seen < length known
behind seen before prefix known p q less = omega (arith, prefix_length seen before p, prefix_length before prefix q, less)

-- a property of an end, if there is one, holds of the end that there is
pub at_some : {A : Type 0} (P : A → Type 0) (o : Option A) (x : A) → o ≡ Some x → IfSome o P → P x
at_some P None x e h = absurd (cc e)
at_some P (Some y) x e h = let same : y ≡ x = cc e in subst P same h
