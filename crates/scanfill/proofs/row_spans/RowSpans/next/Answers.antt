use Rattle.std.proofs.Common.{◌≡◌, ◌∙◌, ℕ, ◌+◌, ◌/◌, ◌%◌, ◌<◌, ◌≤◌, List, ◌∷◌, length, get_or, sym, ap, arith}
use Rattle.scanfill.specs.Flips.{AreRising, AreFlipsOf, IsFlipOf, FlipsValue, index_of}
use Rattle.scanfill.proofs.Pairing.{column-below, index-parts, rising-first, rising-rest, rows-later, span-one, span-two, flip-first, flips-rest}
use Rattle.scanfill.proofs.row_spans.RowSpans.next.Goals as goal
use Rattle.scanfill.proofs.row_spans.RowSpans.next.Goals.{in-Some+else-row_of-row, in_default}

-- the flips are the first one and the rest
first-of : (w h first : ℕ) (flips rest : List ℕ) → flips ≡ first ∷ rest → AreFlipsOf w h flips → IsFlipOf w h first × AreFlipsOf w h rest
first-of w h first flips rest is t = let s = rw is at t in (flip-first w h first rest s, flips-rest w h first rest s)

-- the second one is at least the first, and the column no less where both are of a row
least-of : (w h first second : ℕ) (flips rest others : List ℕ) → flips ≡ first ∷ rest → rest ≡ second ∷ others → AreFlipsOf w h flips → first ≤ second
least-of w h first second flips rest others is next t =
    let s = rw (is, next) at t in
    s.rising 0 1 0 (omega arith) (omega arith)

columns-rise : (a b : ℕ) → a / 2048 ≡ b / 2048 → a ≤ b → a % 2048 ≤ b % 2048
columns-rise a b same le = omega (arith, index-parts a, index-parts b, same)

-- where the next flip isn't of the row, all that are left are of later rows
all-later : (first second row : ℕ) (rest others : List ℕ) → first / 2048 ≡ row → rest ≡ second ∷ others → AreRising (first ∷ rest) → (second / 2048 ≡ row → ⊥) →
    (n d : ℕ) → n < length rest → index_of (row + 1) 0 ≤ get_or rest n d
all-later first second row rest others is next rising other n d below =
    let late : index_of (row + 1) 0 ≤ second = rows-later first second row is (rw next at (rising-first first rest rising) 0 0 (omega arith)) other in
    let after : second ≤ get_or (second ∷ others) n d = let r = rising-rest first (second ∷ others) (rw next at rising) in r 0 n d (omega arith) (omega (arith, below, ap length next)) in
    rw next (omega (arith, late, after))

pub row_of-requires : goal.row_of-requires
row_of-requires c =
    let s = c.self.inside in
    let one = first-of s.width s.height c.in_ok-first.first.now s.indices.now c.in_ok-first.rest.now c.in_ok-first.ensures.cases.0 c.self.invariant in
    let two = first-of s.width s.height c.in-Some.second.now c.in_ok-first.rest.now c.in-Some.others.now c.in-Some.ensures.cases.0 one.1 in
    omega (arith, two.0.above)

pub invariant_of-self : goal.invariant_of-self
invariant_of-self c =
    let s = c.self.inside in
    let one = first-of s.width s.height c.in_ok-first.first.now s.indices.now c.in_ok-first.rest.now c.in_ok-first.ensures.cases.0 c.self.invariant in
    let two = first-of s.width s.height c.in-Some.second.now c.in_ok-first.rest.now c.in-Some.others.now c.in-Some.ensures.cases.0 one.1 in
    two.1

pub invariant_of-self-2 : goal.invariant_of-self-2
invariant_of-self-2 c =
    let s = c.self.inside in
    let one = first-of s.width s.height c.in_ok-first.first.now s.indices.now c.in_ok-first.rest.now c.in_ok-first.ensures.cases.0 c.self.invariant in
    one.1

-- a flip that is followed by one of its row
pub returns-then-row_of-row-clause-span : goal.returns-then-row_of-row-clause-span
returns-then-row_of-row-clause-span c =
    let s = c.self.inside in
    let a = c.in_ok-first.first.now in
    let b = c.in-Some.second.now in
    let one = first-of s.width s.height a s.indices.now c.in_ok-first.rest.now c.in_ok-first.ensures.cases.0 c.self.invariant in
    let two = first-of s.width s.height b c.in_ok-first.rest.now c.in-Some.others.now c.in-Some.ensures.cases.0 one.1 in
    let le = least-of s.width s.height a b s.indices.now c.in_ok-first.rest.now c.in-Some.others.now c.in_ok-first.ensures.cases.0 c.in-Some.ensures.cases.0 c.self.invariant in
    rw (← c.self.view_is) (record {
      row = rw c.row_of-row.ensures one.0.above;
      some = rw (c.column_of-from.ensures, c.column_of-to.ensures) (columns-rise a b (sym c.row_of-row.ensures ∙ (sym c.if-row_of-row.true ∙ c.row_of.ensures)) le);
      within = rw c.column_of-to.ensures (omega (arith, two.0.left));
    })

pub returns-then-row_of-row-clause-flipped : goal.returns-then-row_of-row-clause-flipped
returns-then-row_of-row-clause-flipped c = λ i j h.
    let s = c.self.inside in
    let a = c.in_ok-first.first.now in
    let b = c.in-Some.second.now in
    let one = first-of s.width s.height a s.indices.now c.in_ok-first.rest.now c.in_ok-first.ensures.cases.0 c.self.invariant in
    let le = least-of s.width s.height a b s.indices.now c.in_ok-first.rest.now c.in-Some.others.now c.in_ok-first.ensures.cases.0 c.in-Some.ensures.cases.0 c.self.invariant in
    let flips : s.indices.now ≡ a ∷ b ∷ c.in-Some.others.now = c.in_ok-first.ensures.cases.0 ∙ ap (λ (xs : List ℕ). a ∷ xs) c.in-Some.ensures.cases.0 in
    let wide = ap (λ (t : FlipsValue). t.width) c.self.view_is in
    let first : a ≡ index_of c.row_of-row.result c.column_of-from.result = rw (c.row_of-row.ensures, c.column_of-from.ensures) (index-parts a) in
    let second : b ≡ index_of c.row_of-row.result c.column_of-to.result = rw (← c.if-row_of-row.true) (rw (c.row_of.ensures, c.column_of-to.ensures) (index-parts b)) in
    rw (← c.self.view_is, flips)
    (span-two c.row_of-row.result c.column_of-from.result c.column_of-to.result a b c.in-Some.others.now i j first second
    (omega (arith, c.column_of-from.ensures, column-below a)) (omega (arith, c.column_of-to.ensures, column-below b)) le
    (omega (arith, wide, c.pixels-width.ensures.value, c.pixels-width.ensures.limits))
    (rising-first b c.in-Some.others.now (rw c.in-Some.ensures.cases.0 at one.1.rising)))

-- a flip that no other of its row follows
pub returns-clause-flipped : goal.returns-clause-flipped
returns-clause-flipped c = λ i j h.
    let s = c.self.inside in
    let a = c.in_ok-first.first.now in
    let rest = c.in_ok-first.rest.now in
    let wide = ap (λ (t : FlipsValue). t.width) c.self.view_is in
    let first : a ≡ index_of c.row_of-row.result c.column_of-from.result = rw (c.row_of-row.ensures, c.column_of-from.ensures) (index-parts a) in
    let rising = rw c.in_ok-first.ensures.cases.0 at c.self.invariant.rising in
    let later : (n d : ℕ) → n < length rest → index_of (c.row_of-row.result + 1) 0 ≤ get_or rest n d = elim c.match-split_first.branch [
      | in-Some+else-row_of-row w ↦
          all-later a w.in-Some.second.now c.row_of-row.result rest w.in-Some.others.now (sym c.row_of-row.ensures) w.in-Some.ensures.cases.0 rising
          (λ e. w.if-row_of-row.false (w.row_of.ensures ∙ e))
      | in_default w ↦ λ n d below. let none = w.in_default.ensures.cases in absurd (omega (arith, below, none))
    ] in
    rw (← c.self.view_is, c.in_ok-first.ensures.cases.0)
    (span-one c.pixels-width.result c.row_of-row.result c.column_of-from.result a rest i j first
    (omega (arith, c.column_of-from.ensures, column-below a))
    (omega (arith, c.pixels-width.ensures.limits)) (omega (arith, h, wide, c.pixels-width.ensures.value)) later)
