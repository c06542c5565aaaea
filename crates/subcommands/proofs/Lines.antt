-- The first line of some bytes.
use Rattle.std.proofs.Common.{◌≡◌, ◌∙◌, ℕ, suc, ◌+◌, Bool, true, false, List, [], ◌∷◌, ◌++◌, take, drop, inl, inr, refl, ap, arith, eqb-true}
use Rattle.std.specs.Prelude.{◌⊎◌}
use Rattle.std.specs.List.{before_first, after_first, position_or_len}
use Rattle.batches.specs.Command.{is_line_end}

-- after a byte that is no LF the line goes on
pub line-goes-on : (b : ℕ) (bs : List ℕ) → is_line_end b ≡ false → position_or_len is_line_end (b ∷ bs) ≡ suc (position_or_len is_line_end bs)
line-goes-on b bs h = rw h (omega arith)

pub before-goes-on : (b : ℕ) (bs : List ℕ) → is_line_end b ≡ false → before_first is_line_end (b ∷ bs) ≡ b ∷ before_first is_line_end bs
before-goes-on b bs h = ap (λ n. take n (b ∷ bs)) (line-goes-on b bs h)

pub after-goes-on : (b : ℕ) (bs : List ℕ) → is_line_end b ≡ false → after_first is_line_end (b ∷ bs) ≡ after_first is_line_end bs
after-goes-on b bs h =
    let more : position_or_len is_line_end (b ∷ bs) + 1 ≡ suc (position_or_len is_line_end bs + 1) = omega (arith, line-goes-on b bs h) in
    ap (λ n. drop n (b ∷ bs)) more

-- bytes are their first line and the bytes after it
pub first-line : (bytes : List ℕ) →
    (bytes ≡ before_first is_line_end bytes ++ (10 ∷ after_first is_line_end bytes)) ⊎ ((bytes ≡ before_first is_line_end bytes) × (after_first is_line_end bytes ≡ []))
first-line [] = inr (refl, refl)
first-line (b ∷ bs) = by (first-line bs) (is_line_end b) refl
  where
    by : (bs ≡ before_first is_line_end bs ++ (10 ∷ after_first is_line_end bs)) ⊎ ((bs ≡ before_first is_line_end bs) × (after_first is_line_end bs ≡ [])) →
        (e : Bool) → is_line_end b ≡ e →
        (b ∷ bs ≡ before_first is_line_end (b ∷ bs) ++ (10 ∷ after_first is_line_end (b ∷ bs))) ⊎ ((b ∷ bs ≡ before_first is_line_end (b ∷ bs)) × (after_first is_line_end (b ∷ bs) ≡ []))
    by others true h = inl (rw h (ap (λ x. x ∷ bs) (eqb-true b 10 h)))
    by (inl is) false h = inl (rw (before-goes-on b bs h, after-goes-on b bs h) (ap (λ x. b ∷ x) is))
    by (inr is) false h = inr (rw (before-goes-on b bs h) (ap (λ x. b ∷ x) is.0), after-goes-on b bs h ∙ is.1)
