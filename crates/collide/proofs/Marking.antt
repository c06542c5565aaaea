-- Marked pixels, row by row.
use Rattle.std.proofs.Common.{◌≡◌, ◌∙◌, ℕ, ◌+◌, ◌-◌, ◌*◌, ◌<◌, ◌≤◌, ◌↔◌, ◌⊎◌, inl, inr, List, ◌++◌, length, take, drop, ap, arith, ⊎_elim}
use Rattle.std.proofs.lemmas.Bool.{cases_lt}
use Rattle.std.proofs.lemmas.Int.{ints, to_z-of_z}
use Rattle.std.proofs.lemmas.List.{append-nil, drop_all, take_all}
use Rattle.std.proofs.lemmas.Nat.{mul-add-lt}
use lib.IntN.{ℤ, pos, negsuc, ◌-ℤ◌}
use lib.Signed.{◌<ℤ◌, ◌≤ℤ◌}
use mir.Syntax.{w64}
use mir.Val.{to_z, of_z, SFits}
use Rattle.geom.specs.PxBox.{PixelBoxValue}
use Rattle.collide.specs.Bits.{AreSet, HasAny, HasBit}
use Rattle.collide.specs.Marks.{HasPixelOf, bit_of}

-- a bit among those of a row's columns is one of the row
pub same-row : (c i j row left right : ℕ) → i < c → right ≤ c → row * c + left ≤ j * c + i → j * c + i < row * c + right → j ≡ row
same-row c i j row left right within most low high = ⊎_elim
    (λ (lt : j < row). let m = mul-add-lt j c i row lt within in absurd (omega (arith, m, low)))
    (λ (ge : row ≤ j). ⊎_elim
    (λ (lt : row < j). let m = mul-add-lt row c (right - 1) j lt (omega (arith, within, most)) in absurd (omega (arith, m, high, within)))
    (λ (le : j ≤ row). omega (arith, ge, le))
    (cases_lt row j))
    (cases_lt j row)

-- the bit of a position as a call got it
pub bit-is : (n count : ℕ) (r z : ℤ) → n ≡ bit_of count (to_z w64 (of_z w64 r)) → r ≡ z → SFits w64 r → n ≡ bit_of count z
bit-is n count r z h e f = h ∙ ap (bit_of count) (to_z-of_z w64 r f ∙ e)

-- all words are written back
pub written-back : (old new : List ℕ) (n : ℕ) → length new ≡ length old → n ≡ length old → take n (new ++ drop (length new) old) ≡ new
written-back old new n h e = rw (drop_all (length new) old (omega (arith, h)), append-nil) (take_all n new (omega (arith, h, e)))

-- a row's bits up to one of its columns lie within those of all rows
pub row-within : (c r row right words : ℕ) → row < r → right ≤ c → c * r ≤ words → row * c + right ≤ words
row-within c r row right words up most room = ⊎_elim
    (λ (some : 0 < c). let m = mul-add-lt row c (c - 1) r up (omega (arith, some)) in omega (arith, m, most, room, some))
    (λ (none : c ≤ 0). let z : c ≡ 0 = omega (arith, none) in rw z (omega (arith, most, none)))
    (cases_lt 0 c)

-- columns, or rows, from the bit of a position on are those from the position on
pub bit-from : (count i : ℕ) (z : ℤ) → i < count → bit_of count z ≤ i → z ≤ℤ (pos i -ℤ pos 1)
bit-from count i (pos n) short h = omega (arith, ints, short, h)
bit-from count i (negsuc n) short h = omega (arith, ints)

pub bit-to : (count i : ℕ) (z : ℤ) → i < count → z ≤ℤ (pos i -ℤ pos 1) → bit_of count z ≤ i
bit-to count i (pos n) short h = omega (arith, ints, short, h)
bit-to count i (negsuc n) short h = omega arith

pub below-from : (count i : ℕ) (z : ℤ) → i < count → i < bit_of count z → (pos i -ℤ pos 1) <ℤ z
below-from count i (pos n) short h = omega (arith, ints, short, h)
below-from count i (negsuc n) short h = absurd (omega (arith, h))

pub below-to : (count i : ℕ) (z : ℤ) → i < count → (pos i -ℤ pos 1) <ℤ z → i < bit_of count z
below-to count i (pos n) short h = omega (arith, ints, short, h)
below-to count i (negsuc n) short h = absurd (omega (arith, ints, h))

-- the bits of a box's columns and rows are those of its pixels
pub has-pixel : (c r i j : ℕ) (area : PixelBoxValue) → i < c → j < r → bit_of c area.left ≤ i → i < bit_of c area.right → bit_of r area.top ≤ j → j < bit_of r area.bottom → HasPixelOf area i j
has-pixel c r i j area hi hj a b d e = record {
  left = bit-from c i area.left hi a;
  right = below-from c i area.right hi b;
  top = bit-from r j area.top hj d;
  bottom = below-from r j area.bottom hj e;
}

-- the rows before one of a number have the pixels of some columns marked
abbrev pub AreMarkedTo : ℕ → ℕ → ℕ → ℕ → ℕ → ℕ → ℕ → List ℕ → List ℕ → Type 0
AreMarkedTo c r left right top bottom row old new = (i j : ℕ) → i < c → j < r →
    HasBit new (j * c + i) ↔ (((top ≤ j) × (j < row) × (j < bottom) × (left ≤ i) × (i < right)) ⊎ HasBit old (j * c + i))

-- and that row too
pub marked-next : (c r left right top bottom row : ℕ) (old mid new : List ℕ) → right ≤ c → top ≤ row → row < bottom → c * r ≤ 64 * length mid →
    AreSet (row * c + left) (row * c + right) mid new → AreMarkedTo c r left right top bottom row old mid → AreMarkedTo c r left right top bottom (row + 1) old new
marked-next c r left right top bottom row old mid new most first last room set done i j hi hj =
    let inside : j * c + i < 64 * length mid = omega (arith, mul-add-lt j c i r hj hi, room) in
    let s = set (j * c + i) inside in
    let d = done i j hi hj in (
      λ h. ⊎_elim
          (λ (x : (row * c + left ≤ j * c + i) × (j * c + i < row * c + right)).
          let e = same-row c i j row left right hi most x.0 x.1 in
          let x' = rw e at x in
          inl (omega (arith, e, first), omega (arith, e), omega (arith, e, last), omega (arith, x'.0), omega (arith, x'.1)))
          (λ (b : HasBit mid (j * c + i)). ⊎_elim
          (λ (x : (top ≤ j) × (j < row) × (j < bottom) × (left ≤ i) × (i < right)). inl (x.0, omega (arith, x.1), x.2, x.3, x.4))
          (λ (o : HasBit old (j * c + i)). inr o)
          (d.0 b))
          (s.0 h),
      λ u. ⊎_elim
          (λ (x : (top ≤ j) × (j < row + 1) × (j < bottom) × (left ≤ i) × (i < right)). ⊎_elim
          (λ (lt : j < row). s.1 (inr (d.1 (inl (x.0, lt, x.2, x.3, x.4)))))
          (λ (ge : row ≤ j). let e : j ≡ row = omega (arith, ge, x.1) in s.1 (inl (rw e (omega (arith, x.3), omega (arith, x.4)))))
          (cases_lt j row))
          (λ (o : HasBit old (j * c + i)). s.1 (inr (d.1 (inr o))))
          u,
    )

-- after the last row the pixels of the box are marked
pub marked-end : (c r row : ℕ) (area : PixelBoxValue) (old new : List ℕ) → bit_of r area.bottom ≤ row →
    AreMarkedTo c r (bit_of c area.left) (bit_of c area.right) (bit_of r area.top) (bit_of r area.bottom) row old new →
    (i j : ℕ) → i < c → j < r → HasBit new (j * c + i) ↔ (HasPixelOf area i j ⊎ HasBit old (j * c + i))
marked-end c r row area old new past done i j hi hj =
    let d = done i j hi hj in (
      λ h. ⊎_elim
          (λ (x : (bit_of r area.top ≤ j) × (j < row) × (j < bit_of r area.bottom) × (bit_of c area.left ≤ i) × (i < bit_of c area.right)). inl (has-pixel c r i j area hi hj x.3 x.4 x.0 x.2))
          (λ (o : HasBit old (j * c + i)). inr o)
          (d.0 h),
      λ u. d.1 (⊎_elim
          (λ (p : HasPixelOf area i j).
          let last = below-to r j area.bottom hj p.bottom in
          inl (bit-to r j area.top hj p.top, omega (arith, last, past), last, bit-to c i area.left hi p.left, below-to c i area.right hi p.right))
          (λ (o : HasBit old (j * c + i)). inr o)
          u),
    )

-- none of the pixels of some columns is marked in the rows before one of a number
abbrev pub HasNoneTo : ℕ → ℕ → ℕ → ℕ → ℕ → List ℕ → Type 0
HasNoneTo c left right top row words = (i j : ℕ) → i < c → top ≤ j → j < row → left ≤ i → i < right → HasBit words (j * c + i) → ⊥

-- nor in that row
pub none-next : (c left right top row : ℕ) (words : List ℕ) → (HasAny (row * c + left) (row * c + right) words → ⊥) →
    HasNoneTo c left right top row words → HasNoneTo c left right top (row + 1) words
none-next c left right top row words none done i j hi low high a b h = ⊎_elim
    (λ (lt : j < row). done i j hi low lt a b h)
    (λ (ge : row ≤ j).
    let e : j ≡ row = omega (arith, ge, high) in
    none (record { number = j * c + i; first = rw e (omega (arith, a)); last = rw e (omega (arith, b)); is = h }))
    (cases_lt j row)
