-- A text without what it begins with.
use Rattle.std.proofs.Common.{◌≡◌, ℕ, eqb, true, false, List, length, drop, refl, ap, ◌∙◌, Bor, Option, None, Some}
use Rattle.std.specs.Prelude.{option_map, if◌then◌else◌}
use Rattle.std.specs.List.{starts_with}
use Rattle.std.specs.Option.{MatchOption}
use Rattle.std.specs.Str.Pattern.{FindsTextPrefix, StripsPrefix}
use Rattle.std.proofs.lemmas.Str.Pattern.{starts_text}

-- `strip_prefix` at a `&str`, as the functions of `specs.List`
pub strips_text : (r : Option (Bor (List ℕ))) (n s : List ℕ) → MatchOption r (FindsTextPrefix n s None) (λ x. StripsPrefix (FindsTextPrefix n) s x.now) →
    option_map (λ (x : Bor (List ℕ)). x.now) r ≡ (if starts_with eqb s n then Some (drop (length n) s) else None)
strips_text None n s h = rw (← starts_text false n s h) refl
strips_text (Some x) n s h =
    rw (← starts_text true n s (h.0, h.1, rw h.1.0 h.1.2)) (ap (λ t. Some t) (h.2 ∙ ap (λ k. drop k s) h.1.0))
