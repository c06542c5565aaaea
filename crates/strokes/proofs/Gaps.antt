-- Short round segments that the discs round their ends cover alone.
use Rattle.std.proofs.Common.{◌≡◌, ◌∙◌, ℕ, ◌<◌, ◌≤◌, min, max, if◌then◌else◌, List, [], ◌∷◌, ◌++◌, length, get_or, Bool, true, false, ◌&&◌, ◌||◌, refl, sym, ap, arith, ⊎_elim}
use Rattle.std.proofs.Math.Nat.{max-eq_left, max-eq_right}
use Rattle.std.proofs.Math.Seq.{get_or-append_seam}
use Rattle.std.proofs.lemmas.List.{get_or_append_left, length-append}
use Rattle.std.proofs.lemmas.Bool.{and_parts, cases_lt, or_left, or_right}
use Rattle.std.proofs.lemmas.Int.{by_lt_z, ints}
use Rattle.std.specs.Prelude.{int_le, int_lt, nat_le}
use lib.IntN.{ℤ, pos, neg_ℤ, ◌+ℤ◌, ◌-ℤ◌, ◌*ℤ◌}
use lib.Signed.{◌<ℤ◌, ◌≤ℤ◌}
use Rattle.geom.specs.Device.{DevicePoint}
use Rattle.geom.specs.Edge.{EdgeEnds}
use Rattle.geom.proofs.Products.{is_le, le_of, lt_of, mul-add, mul-comm, mul-neg, not_le_of, same_test, sub-mul}
use Rattle.scanfill.specs.Runs.{has_column}
use Rattle.scanfill.specs.declared.span.Span.{Span}
use Rattle.strokes.specs.Chord.{ArePlain, NothingBetween}
use Rattle.strokes.specs.Round.{IsRoot, along, apart, aside, covers_round, is_abreast, is_close, is_round, joined, square, square_of_half}
use Rattle.strokes.proofs.RoundNear.{along-back, from-end}
use Rattle.strokes.proofs.Rounded.{covers-parts, root-test, square-order}
use Rattle.strokes.proofs.Widening.{IsCore}
use Rattle.strokes.proofs.Squares.{lagrange, square-mul, square-neg, times}

-- the greatest number whose square is at most n has the greatest such square
pub greatest-square : (n r c : ℤ) → IsRoot n r → square c ≤ℤ n → square c ≤ℤ square r
greatest-square n r c is h =
    let both = and_parts (int_le (neg_ℤ r) c) (int_le c r) (sym (root-test n r c is) ∙ is_le (square c) n h) in
    by_lt_z c (pos 0)
    (λ (below : c <ℤ pos 0). rw (square-neg c) at (square-order r (neg_ℤ c) (omega (arith, ints, below)) (omega (arith, ints, le_of (neg_ℤ r) c both.0))))
    (λ (above : pos 0 ≤ℤ c). square-order r c above (le_of c r both.1))

-- so where that is small enough, no number lies between
pub none-between : (n l r : ℤ) → IsRoot n r → (pos 4 *ℤ square r +ℤ square l) ≤ℤ (pos 4 *ℤ n) → (c : ℤ) → square c ≤ℤ n → (pos 4 *ℤ square c +ℤ square l) ≤ℤ (pos 4 *ℤ n)
none-between n l r is h c most = go (square c) (square r) (square l) n (greatest-square n r c is most) h
  where
    go : (a b d e : ℤ) → a ≤ℤ b → (pos 4 *ℤ b +ℤ d) ≤ℤ (pos 4 *ℤ e) → (pos 4 *ℤ a +ℤ d) ≤ℤ (pos 4 *ℤ e)
    go a b d e p q = omega (arith, ints)

-- four times the square of at most half of a number is at most its square
half-square : (k l : ℤ) → pos 0 ≤ℤ k → (pos 2 *ℤ k) ≤ℤ l → (pos 4 *ℤ square k) ≤ℤ square l
half-square k l some h = rw (square-mul (pos 2) k) at (square-order l (pos 2 *ℤ k) (omega (arith, ints, some)) h)

-- a point that isn't in the disc round an end, and not further along than half the way, lies far aside
far-aside : (h u v s t : ℤ) → pos 0 ≤ℤ (u *ℤ s +ℤ v *ℤ t) → (pos 2 *ℤ (u *ℤ s +ℤ v *ℤ t)) ≤ℤ (square s +ℤ square t) → pos 0 <ℤ (square s +ℤ square t) → h <ℤ (square u +ℤ square v) →
    (pos 4 *ℤ (h *ℤ (square s +ℤ square t))) <ℤ (pos 4 *ℤ square (v *ℤ s -ℤ u *ℤ t) +ℤ square (square s +ℤ square t))
far-aside h u v s t some most long out =
    let l = square s +ℤ square t in
    let more : (l *ℤ (h +ℤ pos 1)) ≤ℤ (l *ℤ (square u +ℤ square v)) = times l (h +ℤ pos 1) (square u +ℤ square v) (omega (arith, ints, long)) (omega (arith, ints, out)) in
    go (square (u *ℤ s +ℤ v *ℤ t)) (square (v *ℤ s -ℤ u *ℤ t)) (square l) (l *ℤ (square u +ℤ square v)) (h *ℤ l) l
    (half-square (u *ℤ s +ℤ v *ℤ t) l some most) (lagrange u v s t ∙ mul-comm (square u +ℤ square v) l)
    (rw (mul-add l h (pos 1), mul-comm l h, last l) at more) long
  where
    last : (l : ℤ) → l *ℤ pos 1 ≡ l
    last l = omega (arith, ints)

    go : (a c d e f l : ℤ) → (pos 4 *ℤ a) ≤ℤ d → a +ℤ c ≡ e → (f +ℤ l) ≤ℤ e → pos 0 <ℤ l → (pos 4 *ℤ f) <ℤ (pos 4 *ℤ c +ℤ d)
    go a c d e f l p q r s = omega (arith, ints)

-- the same number aside, from the other end
aside-back : (u v s t : ℤ) → (v -ℤ t) *ℤ neg_ℤ s -ℤ (u -ℤ s) *ℤ neg_ℤ t ≡ neg_ℤ (v *ℤ s -ℤ u *ℤ t)
aside-back u v s t = rw (mul-neg (v -ℤ t) s, mul-neg (u -ℤ s) t, sub-mul v t s, sub-mul u s t, mul-comm t s) (go (v *ℤ s) (u *ℤ t) (s *ℤ t))
  where
    go : (a b c : ℤ) → neg_ℤ (a -ℤ c) -ℤ neg_ℤ (b -ℤ c) ≡ neg_ℤ (a -ℤ b)
    go a b c = omega (arith, ints)

-- what is beside a segment, and in neither disc, lies between
beside-far : (w : ℕ) (e : EdgeEnds) (p : DevicePoint) → is_abreast e p ≡ true → is_round w e.from p ≡ false → is_round w e.to p ≡ false →
    (pos 4 *ℤ (square_of_half w *ℤ apart e.from e.to)) <ℤ (pos 4 *ℤ square (aside e p) +ℤ square (apart e.from e.to))
beside-far w e p abreast first last =
    let ends = and_parts (int_lt (pos 0) (along e p)) (int_lt (along e p) (apart e.from e.to)) abreast in
    let more = lt_of (pos 0) (along e p) ends.0 in
    let less = lt_of (along e p) (apart e.from e.to) ends.1 in
    by_lt_z l (pos 2 *ℤ along e p)
    (λ (beyond : l <ℤ (pos 2 *ℤ along e p)).
    rw (square-neg s, square-neg t, aside-back u v s t, square-neg (aside e p)) at (far-aside (square_of_half w) (u -ℤ s) (v -ℤ t) (neg_ℤ s) (neg_ℤ t)
    (rw (along-back u v s t) (omega (arith, ints, less)))
    (rw (square-neg s, square-neg t, along-back u v s t) (omega (arith, ints, beyond)))
    (rw (square-neg s, square-neg t) (omega (arith, ints, more, less)))
    (rw (from-end e p) (not_le_of (apart e.to p) (square_of_half w) last))))
    (λ (within : (pos 2 *ℤ along e p) ≤ℤ l).
    far-aside (square_of_half w) u v s t (omega (arith, ints, more)) within (omega (arith, ints, more, less)) (not_le_of (apart e.from p) (square_of_half w) first))
  where
    u : ℤ
    u = p.x -ℤ e.from.x

    v : ℤ
    v = p.y -ℤ e.from.y

    s : ℤ
    s = e.to.x -ℤ e.from.x

    t : ℤ
    t = e.to.y -ℤ e.from.y

    l : ℤ
    l = apart e.from e.to

-- where nothing lies between, each point that a segment covers lies in one of the discs
pub in-discs : (w : ℕ) (e : EdgeEnds) (p : DevicePoint) → NothingBetween w (apart e.from e.to) → covers_round w e p ≡ true → (is_round w e.from p || is_round w e.to p) ≡ true
in-discs w e p none covered = go (is_round w e.from p) (is_round w e.to p) refl refl
  where
    go : (a b : Bool) → is_round w e.from p ≡ a → is_round w e.to p ≡ b → (is_round w e.from p || is_round w e.to p) ≡ true
    go true b f g = or_left (is_round w e.from p) (is_round w e.to p) f
    go false true f g = or_right (is_round w e.from p) (is_round w e.to p) g
    go false false f g =
        let beside : (is_abreast e p && is_close w e p) ≡ true = rw (f, g) at (sym (covers-parts w e p) ∙ covered) in
        let both = and_parts (is_abreast e p) (is_close w e p) beside in
        let far = beside-far w e p both.0 f g in
        let near = none (aside e p) (le_of (square (aside e p)) (square_of_half w *ℤ apart e.from e.to) both.1) in
        absurd (omega (arith, ints, far, near))

-- where no point beside is covered but in the discs, the columns of both and those between are all that are covered
pub core-all : (test f g : ℕ → Bool) (span : Span) (end : ℕ) → IsCore test f g span end → ((i : ℕ) → test i ≡ true → (f i || g i) ≡ true) →
    (i : ℕ) → i < end → has_column span i ≡ test i
core-all test f g span end core plain i less = same_test (has_column span i) (test i) (core.pass i) (λ e. core.all i less (plain i e))

-- joined columns lie before the end that both have
pub joined-within : (a b : Span) (end : ℕ) → a.to ≤ end → b.to ≤ end → (joined a b).to ≤ end
joined-within a b end p q = go (nat_le a.to a.from) (nat_le b.to b.from)
  where
    go : (s t : Bool) → (if s then b else if t then a else record { from = min a.from b.from; to = max a.to b.to }).to ≤ end
    go true t = q
    go false true = p
    go false false = ⊎_elim
        (λ (less : a.to < b.to). rw (max-eq_right {n = a.to} {m = b.to} (omega (arith, less))) q)
        (λ (more : b.to ≤ a.to). rw (max-eq_left {n = a.to} {m = b.to} more) p)
        (cases_lt a.to b.to)

-- a table of plain lengths, and one more
pub plain-next : (w n : ℕ) (plain : List Bool) (x : Bool) → length plain ≡ n → ArePlain w plain → (x ≡ true → NothingBetween w (pos n)) → ArePlain w (plain ++ x ∷ [])
plain-next w n plain x count are one l below e = ⊎_elim
    (λ (less : l < length plain). are l less (sym (get_or_append_left plain (x ∷ []) false l less) ∙ e))
    (λ (more : length plain ≤ l).
    let same : l ≡ length plain = omega (arith, more, below, length-append plain (x ∷ [])) in
    let last : get_or (plain ++ x ∷ []) l false ≡ x = ap (λ k. get_or (plain ++ x ∷ []) k false) same ∙ get_or-append_seam plain x [] false in
    let here : l ≡ n = same ∙ count in
    rw here (one (sym last ∙ e)))
    (cases_lt l (length plain))
