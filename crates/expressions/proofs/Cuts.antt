-- Texts that are cut before a byte.
use Rattle.std.proofs.Common.{◌≡◌, ◌≢◌, ℕ, suc, ◌+◌, ◌<◌, ◌==◌, Bool, true, false, not, cond, List, [], ◌∷◌, ◌++◌, length, take, drop, option_map, Some, None, IfSome, All, refl, ◌∙◌, ap, add-zero, one-add, length-append, arith}
use Rattle.std.specs.Prelude.{nat_lt, IsFalse}
use Rattle.std.specs.List.{position_or_len}
use Rattle.std.proofs.lemmas.Bool.{eqb-true, eqb-false, ne_eqb, eq-eqb, ltb-true, lt-ltb}
use Rattle.std.proofs.lemmas.List.Elements.{All-nil, All-cons, All-head, All-tail, All-weaker}
use Rattle.std.proofs.Math.Seq.{take-append_seam, drop-append-add}
use Rattle.geom.proofs.Passing.{fails-before, position_or_len-before}
use Rattle.expressions.specs.Reading.{split_before}

-- where a byte comes: it comes after the bytes before it
comes-cons : (b x : ℕ) (xs : List ℕ) (t : Bool) → (x == b) ≡ t → cond (not t) (1 + position_or_len (λ c. c == b) xs) 0 < length (x ∷ xs) →
    (position_or_len (λ c. c == b) xs < length xs → xs ≡ take (position_or_len (λ c. c == b) xs) xs ++ (b ∷ drop (position_or_len (λ c. c == b) xs + 1) xs)) →
    x ∷ xs ≡ take (cond (not t) (1 + position_or_len (λ c. c == b) xs) 0) (x ∷ xs) ++ (b ∷ drop (cond (not t) (1 + position_or_len (λ c. c == b) xs) 0 + 1) (x ∷ xs))
comes-cons b x xs true e lt others = ap (λ c. c ∷ xs) (eqb-true x b e)
comes-cons b x xs false e lt others =
    let n = position_or_len (λ c. c == b) xs in
    let two : 1 + n + 1 ≡ suc (n + 1) = omega arith in
    rw (two, one-add) (ap (λ cs. x ∷ cs) (others (omega arith)))

comes : (b : ℕ) (xs : List ℕ) → position_or_len (λ c. c == b) xs < length xs →
    xs ≡ take (position_or_len (λ c. c == b) xs) xs ++ (b ∷ drop (position_or_len (λ c. c == b) xs + 1) xs)
comes b [] lt = absurd (omega arith)
comes b (x ∷ xs) lt = comes-cons b x xs (x == b) refl lt (comes b xs)

-- what is cut off before a byte: bytes without it, and it comes next
abbrev pub IsCut : ℕ → List ℕ → List ℕ × List ℕ → Type 0
IsCut quote bytes p = All (λ b. b ≢ quote) p.0 × (bytes ≡ p.0 ++ (quote ∷ p.1))

pub split-sound : (quote : ℕ) (bytes : List ℕ) → IfSome (split_before quote bytes) (IsCut quote bytes)
unfolding split_before
split-sound quote bytes = by (nat_lt (position_or_len (λ b. b == quote) bytes) (length bytes)) refl
  where
    by : (t : Bool) → nat_lt (position_or_len (λ b. b == quote) bytes) (length bytes) ≡ t →
        IfSome (option_map (λ at. (take at bytes, drop (at + 1) bytes)) (cond t (Some (position_or_len (λ b. b == quote) bytes)) None)) (IsCut quote bytes)
    by true e = (
      All-weaker (λ b. IsFalse (b == quote)) (λ b. b ≢ quote) (λ b f. eqb-false b quote f) _ (fails-before (λ b. b == quote) bytes),
      comes quote bytes (ltb-true _ _ e),
    )
    by false e = tt

-- bytes without a byte are cut off before it
pub split-found : (quote : ℕ) (text after : List ℕ) → All (λ b. b ≢ quote) text → split_before quote (text ++ (quote ∷ after)) ≡ Some (text, after)
unfolding split_before
split-found quote text after h =
    let fails = All-weaker (λ b. b ≢ quote) (λ b. IsFalse (b == quote)) (λ b ne. ne_eqb b quote ne) text h in
    let at : position_or_len (λ b. b == quote) (text ++ (quote ∷ after)) ≡ length text =
    position_or_len-before (λ b. b == quote) text (quote ∷ after) fails ∙ rw (eq-eqb quote quote refl) (add-zero (length text)) in
    let within : nat_lt (length text) (length (text ++ (quote ∷ after))) ≡ true = lt-ltb _ _ (omega (arith, length-append text (quote ∷ after))) in
    rw (at, within) (rw (take-append_seam text (quote ∷ after), drop-append-add text (quote ∷ after) 1) refl)
