-- Numbers that are read up to the most that is counted to.
use Rattle.std.proofs.Common.{◌≡◌, ℕ, Bool, true, List, [], ◌∷◌, sym, ◌∙◌, ap, arith}
use Rattle.std.specs.List.{fold, list_all}
use Rattle.std.specs.Char.{is_ascii_digit}
use Rattle.geom.specs.Decimal.{with_digit}
use Rattle.geom.specs.Natural.{up_to}

-- one more digit makes the same of a capped number as of the number, up to the cap
with_digit-up_to : (most n digit : ℕ) → up_to most (with_digit (up_to most n) digit) ≡ up_to most (with_digit n digit)
with_digit-up_to most n digit = omega arith

-- further digits make the same of a capped number as of the number, up to the cap
fold-up_to : (most n : ℕ) (digits : List ℕ) → up_to most (fold with_digit (up_to most n) digits) ≡ up_to most (fold with_digit n digits)
fold-up_to most n [] = omega arith
fold-up_to most n (d ∷ ds) =
    sym (fold-up_to most (with_digit (up_to most n) d) ds)
    ∙ ap (λ m. up_to most (fold with_digit m ds)) (with_digit-up_to most n d)
    ∙ fold-up_to most (with_digit n d) ds

-- what is left after a digit
pub number-step : (most number digit all : ℕ) (rest : List ℕ) → up_to most (fold with_digit number (digit ∷ rest)) ≡ all →
    up_to most (fold with_digit (up_to most (with_digit number digit)) rest) ≡ all
number-step most number digit all rest h = fold-up_to most (with_digit number digit) rest ∙ h

-- a digit before others is a digit
pub digits-step : (digit : ℕ) (rest : List ℕ) (all : Bool) → is_ascii_digit digit ≡ true → list_all is_ascii_digit (digit ∷ rest) ≡ all → list_all is_ascii_digit rest ≡ all
digits-step digit rest all is h = rw is at h
