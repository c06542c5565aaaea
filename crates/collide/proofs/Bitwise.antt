-- Bits of words, and of lists of words.
use Rattle.std.proofs.Common.{◌≡◌, ◌∙◌, ℕ, ◌+◌, ◌-◌, ◌*◌, ◌/◌, ◌%◌, ◌^◌, ◌<◌, ◌≤◌, ◌↔◌, ◌⊎◌, inl, inr, List, length, get_or, set, max, min, bit_and, bit_or, w64, sym, ap, arith, ⊎_elim}
use Rattle.std.proofs.lemmas.Bool.{cases_eq, cases_lt}
use Rattle.std.proofs.lemmas.List.{get_or-set_same, get_or-set_other}
use Rattle.std.proofs.lemmas.Nat.Bits.{bit_at-lt, bit_at-trailing_zeros, bit_at_and, bit_at_not, bit_at_ones, bit_at_ones_above, bit_at_or, bit_at-zero}
use Rattle.std.specs.Int.{bit_at, trailing_zeros}
use Rattle.collide.specs.Bits.{HasAny, HasBit}

min-left : (n x y : ℕ) → n ≡ min x (1 - y) → n ≡ 1 → x ≡ 0 → ⊥
min-left n x y e h z = omega (arith, e, h, z)

min-right : (n x y : ℕ) → n ≡ min x (1 - y) → n ≡ 1 → y ≡ 1 → ⊥
min-right n x y e h z = omega (arith, e, h, z)

min-both : (n x y : ℕ) → n ≡ min x (1 - y) → x ≡ 1 → y ≡ 0 → n ≡ 1
min-both n x y e p q = omega (arith, e, p, q)

-- the bits of ones below one count that aren't below another
pub mask-bit : (low high k : ℕ) → 2 ^ low - 1 < 2 ^ 64 → k < 64 →
    (bit_at (bit_and (2 ^ high - 1) (18446744073709551615 - (2 ^ low - 1))) k ≡ 1) ↔ ((low ≤ k) × (k < high))
mask-bit low high k small within =
    let a = 2 ^ high - 1 in
    let b = 2 ^ low - 1 in
    let e = bit_at_and a (18446744073709551615 - b) k ∙ ap (λ (y : ℕ). min (bit_at a k) y) (bit_at_not w64 b k small within) in (
      λ h. (
        ⊎_elim
            (λ (lt : k < low). absurd (min-right _ (bit_at a k) (bit_at b k) e h (bit_at_ones low k lt)))
            (λ (ge : low ≤ k). ge)
            (cases_lt k low),
        ⊎_elim
            (λ (lt : k < high). lt)
            (λ (ge : high ≤ k). absurd (min-left _ (bit_at a k) (bit_at b k) e h (bit_at_ones_above high k ge)))
            (cases_lt k high),
      ),
      λ r. min-both _ (bit_at a k) (bit_at b k) e (bit_at_ones high k r.1) (bit_at_ones_above low k r.0),
    )

-- the bits of a word that lie from one to before another of all bits
abbrev pub IsMask : ℕ → ℕ → ℕ → ℕ → Type 0
IsMask number from past m = (k : ℕ) → k < 64 → (bit_at m k ≡ 1) ↔ ((from ≤ number * 64 + k) × (number * 64 + k < past))

max-either : (n x y : ℕ) → n ≡ max x y → n ≡ 1 → x < 2 → y < 2 → (x ≡ 1) ⊎ (y ≡ 1)
max-either n x y e h p q = ⊎_elim (λ (s : x ≡ 1). inl s) (λ (s : x ≡ 1 → ⊥). inr (omega (arith, e, h, p, q, s))) (cases_eq x 1)

max-left : (n x y : ℕ) → n ≡ max x y → x ≡ 1 → y < 2 → n ≡ 1
max-left n x y e p q = omega (arith, e, p, q)

max-right : (n x y : ℕ) → n ≡ max x y → y ≡ 1 → x < 2 → n ≡ 1
max-right n x y e p q = omega (arith, e, p, q)

by-word : (n number : ℕ) → n / 64 ≡ number → number * 64 + n % 64 ≡ n
by-word n number e = omega (arith, e)

-- the bits are set in the words before the word with a number
abbrev pub AreSetTo : ℕ → ℕ → ℕ → List ℕ → List ℕ → Type 0
AreSetTo number from past old new = (n : ℕ) → n < 64 * length old → HasBit new n ↔ (((from ≤ n) × (n < past) × (n / 64 < number)) ⊎ HasBit old n)

-- and in that word too
pub set-next : (number from past m w : ℕ) (old mid : List ℕ) → number < length mid → w ≡ get_or mid number 0 → IsMask number from past m →
    AreSetTo number from past old mid → AreSetTo (number + 1) from past old (set mid number (bit_or w m))
set-next number from past m w old mid short is mask done n inside = ⊎_elim
    (λ (e : n / 64 ≡ number).
    let k = n % 64 in
    let within : k < 64 = omega arith in
    let word : get_or (set mid number (bit_or w m)) (n / 64) 0 ≡ bit_or w m = rw e (get_or-set_same mid number (bit_or w m) 0 short) in
    let before : get_or mid (n / 64) 0 ≡ w = rw e (sym is) in
    let bit : bit_at (get_or (set mid number (bit_or w m)) (n / 64) 0) k ≡ max (bit_at w k) (bit_at m k) = ap (λ (z : ℕ). bit_at z k) word ∙ bit_at_or w m k in
    let at = by-word n number e in
    let x = bit_at-lt w k in
    let y = bit_at-lt m k in (
      λ h. ⊎_elim
          (λ (a : bit_at w k ≡ 1). ⊎_elim
          (λ (r : (from ≤ n) × (n < past) × (n / 64 < number)). inl (r.0, r.1, omega (arith, e)))
          (λ (o : HasBit old n). inr o)
          ((done n inside).0 (ap (λ (z : ℕ). bit_at z k) before ∙ a)))
          (λ (b : bit_at m k ≡ 1). let r = rw at at ((mask k within).0 b) in inl (r.0, r.1, omega (arith, e)))
          (max-either _ (bit_at w k) (bit_at m k) bit h x y),
      λ s. ⊎_elim
          (λ (r : (from ≤ n) × (n < past) × (n / 64 < number + 1)). max-right _ (bit_at w k) (bit_at m k) bit ((mask k within).1 (rw at (r.0, r.1))) x)
          (λ (o : HasBit old n). max-left _ (bit_at w k) (bit_at m k) bit (ap (λ (z : ℕ). bit_at z k) (sym before) ∙ (done n inside).1 (inr o)) y)
          s,
    ))
    (λ (other : n / 64 ≡ number → ⊥).
    let word : get_or (set mid number (bit_or w m)) (n / 64) 0 ≡ get_or mid (n / 64) 0 = get_or-set_other mid number (n / 64) (bit_or w m) 0 other in
    let same = ap (λ (z : ℕ). bit_at z (n % 64)) word in (
      λ h. ⊎_elim
          (λ (r : (from ≤ n) × (n < past) × (n / 64 < number)). inl (r.0, r.1, omega (arith, r.2)))
          (λ (o : HasBit old n). inr o)
          ((done n inside).0 (sym same ∙ h)),
      λ s. same ∙ (done n inside).1 (⊎_elim
          (λ (r : (from ≤ n) × (n < past) × (n / 64 < number + 1)). inl (r.0, r.1, omega (arith, r.2, other)))
          (λ (o : HasBit old n). inr o)
          s),
    ))
    (cases_eq (n / 64) number)

-- two words that share a bit: one that both have
min-one : (n x y : ℕ) → n ≡ min x y → n ≡ 1 → x < 2 → y < 2 → (x ≡ 1) × (y ≡ 1)
min-one n x y e h p q = (omega (arith, e, h, p, q), omega (arith, e, h, p, q))

min-ones : (n x y : ℕ) → n ≡ min x y → x ≡ 1 → y ≡ 1 → n ≡ 1
min-ones n x y e p q = omega (arith, e, p, q)

pub shared-bit : (w m : ℕ) → 0 < bit_and w m → bit_and w m < 2 ^ 64 → (k : ℕ) × (k < 64) × (bit_at w k ≡ 1) × (bit_at m k ≡ 1)
shared-bit w m some small =
    let t = bit_at-trailing_zeros w64 (bit_and w m) some small in
    let k = trailing_zeros w64 (bit_and w m) in
    let both = min-one _ (bit_at w k) (bit_at m k) (bit_at_and w m k) t.1 (bit_at-lt w k) (bit_at-lt m k) in
    (k, t.0, both.0, both.1)

-- and none where they share none
pub no-shared-bit : (w m k : ℕ) → bit_and w m ≡ 0 → bit_at w k ≡ 1 → bit_at m k ≡ 1 → ⊥
no-shared-bit w m k none a b =
    let one = min-ones _ (bit_at w k) (bit_at m k) (bit_at_and w m k) a b in
    let zero : bit_at 0 k ≡ 1 = rw none at one in
    let z : 0 ≡ 1 = sym (bit_at-zero k) ∙ zero in
    absurd (omega (arith, z))

-- a shared bit of a word and its mask is one of the tested bits
pub found-bit : (number from past m w : ℕ) (words : List ℕ) → w ≡ get_or words number 0 → IsMask number from past m →
    0 < bit_and w m → bit_and w m < 2 ^ 64 → HasAny from past words
found-bit number from past m w words is mask some small =
    let s = shared-bit w m some small in
    let k = s.0 in
    let r = (mask k s.1).0 s.3 in
    let word : (number * 64 + k) / 64 ≡ number = omega (arith, s.1) in
    let bit : (number * 64 + k) % 64 ≡ k = omega (arith, s.1) in
    record {
      number = number * 64 + k;
      first = r.0;
      last = r.1;
      is = rw (word, bit) (ap (λ (z : ℕ). bit_at z k) (sym is) ∙ s.2);
    }

-- no tested bit is set in the words before the word with a number
abbrev pub HasNoneTo : ℕ → ℕ → ℕ → List ℕ → Type 0
HasNoneTo number from past words = (n : ℕ) → from ≤ n → n < past → n / 64 < number → HasBit words n → ⊥

-- nor in that word
pub none-next : (number from past m w : ℕ) (words : List ℕ) → w ≡ get_or words number 0 → IsMask number from past m →
    bit_and w m ≡ 0 → HasNoneTo number from past words → HasNoneTo (number + 1) from past words
none-next number from past m w words is mask none done n a b lt h = ⊎_elim
    (λ (e : n / 64 ≡ number).
    let k = n % 64 in
    let within : k < 64 = omega arith in
    let at = by-word n number e in
    let before : get_or words (n / 64) 0 ≡ w = rw e (sym is) in
    no-shared-bit w m k none (ap (λ (z : ℕ). bit_at z k) (sym before) ∙ h) ((mask k within).1 (rw at (a, b))))
    (λ (other : n / 64 ≡ number → ⊥). done n a b (omega (arith, lt, other)) h)
    (cases_eq (n / 64) number)
