-- The lesser and the greater of two values are those of their numbers.
use Rattle.std.proofs.Common.{◌≡◌, ap, refl, Bool, true, false, cond, is_lt, Less, Equal, Greater}
use Rattle.std.specs.Int.{int_max, int_min}
use Rattle.std.specs.Ordering.{int_cmp, ord_max, ord_min}
use Rattle.std.specs.Prelude.{int_lt}
use lib.IntN.{ℤ}

-- a comparison is less where the first number is
less : (a b : ℤ) → is_lt (int_cmp a b) ≡ int_lt a b
less a b = go (int_lt a b) (int_lt b a)
  where
    go : (t u : Bool) → is_lt (cond t Less (cond u Greater Equal)) ≡ t
    go true u = refl
    go false true = refl
    go false false = refl

pub lesser : (a b : ℤ) → ord_min int_cmp a b ≡ int_min a b
lesser a b = ap (λ t. cond t b a) (less b a)

pub greater : (a b : ℤ) → ord_max int_cmp a b ≡ int_max a b
greater a b = ap (λ t. cond t a b) (less b a)
