-- Covers of groups, and what they leave out.
use Rattle.std.proofs.Common.{◌≡◌, ℕ, ◌<◌, ◌≤◌, ◌+◌, ◌-◌, ◌*◌, ◌/◌, ◌%◌, ◌^◌, List, [], ◌∷◌, ◌++◌, length, get_or, take, drop, Some, None, ap, sym, ◌∙◌, arith, ⊎_elim}
use Rattle.std.proofs.lemmas.Bool.{cases_lt}
use Rattle.std.proofs.lemmas.List.Elements.{Contains-get_or}
use Rattle.std.proofs.lemmas.Nat.{div-mul-add, div-add-mod'}
use Rattle.std.proofs.lemmas.List.{get_or_append_left, get_or-take, get_or-drop, length-append, length-take, length-drop}
use Rattle.std.proofs.lemmas.Option.{slice_get_cases, slice_get-get_or, get_or_from_slice_get}
use Rattle.std.proofs.Math.Nat.{div-lt_iff_lt-mul}
use Rattle.std.proofs.Math.Seq.{get_or-append_seam}
use Rattle.std.specs.List.{All, slice_get}
use Rattle.geom.specs.World.{Area, Meets}
use Rattle.gridindex.specs.declared.groups.Groups.{Groups}
use Rattle.gridindex.specs.declared.level.Level.{Level}
use Rattle.gridindex.specs.Groups.{Encloses, Covers, IsLevel, IsKept, Misses}
use Rattle.gridindex.proofs.Orders.{order-more, order-none}

-- an element of a list stays where it is when one is added
pub get-left : {X : Type 0} (xs ys : List X) (i : ℕ) → i < length xs → slice_get (xs ++ ys) i ≡ slice_get xs i
get-left {X = X} xs ys i h =
    let g = (slice_get_cases xs i).1 in
    ⊎_elim
    (λ (a : (x : X) × (i < length xs) × (slice_get xs i ≡ Some x) × (get_or xs i x ≡ x)).
    slice_get-get_or (xs ++ ys) i a.0 (omega (arith, length-append xs ys)) ∙ (ap Some (get_or_append_left xs ys a.0 i h ∙ a.3) ∙ sym a.2))
    (λ (b : (length xs ≤ i) × (slice_get xs i ≡ None)). absurd (omega (arith, b.0)))
    g

-- the element of a part of a list
pub part-is : (xs : List ℕ) (from end i : ℕ) → from + i < end → get_or (take (end - from) (drop from xs)) i 0 ≡ get_or xs (from + i) 0
part-is xs from end i h = get_or-take (end - from) (drop from xs) i 0 (omega arith) ∙ get_or-drop from xs i 0

-- a part has as many elements as lie between its ends
pub part-length : (xs : List ℕ) (from end i : ℕ) → end ≤ length xs → from + i < end → i < length (take (end - from) (drop from xs))
part-length xs from end i b h = omega (arith, length-take (end - from) (drop from xs), length-drop from xs)

-- one more group
pub covers-more : (boxes : List Area) (order : List ℕ) (from end size : ℕ) (covers : List Area) (cover : Area) →
    0 < size → from ≡ length covers * size → end ≤ from + size →
    ((i : ℕ) (area : Area) → from + i < end → slice_get boxes (get_or order (from + i) 0) ≡ Some area → Encloses cover area) →
    Covers boxes order from size covers → Covers boxes order end size (covers ++ cover ∷ [])
covers-more boxes order from end size covers cover some at last group before i c area h is box = ⊎_elim
    (λ (lt : i < from).
    let q : i / size < length covers = (div-lt_iff_lt-mul some).1 (omega (arith, at)) in
    before i c area lt (sym (get-left covers (cover ∷ []) (i / size) q) ∙ is) box)
    (λ (ge : from ≤ i).
    let j : from + (i - from) ≡ i = omega arith in
    let e : i ≡ length covers * size + (i - from) = omega (arith, at) in
    let q : i / size ≡ length covers = ap (λ n. n / size) e ∙ div-mul-add (length covers) size (i - from) (omega arith) in
    let a = get_or_from_slice_get (covers ++ cover ∷ []) (i / size) c c is in
    let b = get_or-append_seam covers cover [] c in
    let same : c ≡ cover = sym a ∙ (ap (λ n. get_or (covers ++ cover ∷ []) n c) q ∙ b) in
    rw same (group (i - from) area (omega arith) (rw j box)))
    (cases_lt i from)

-- a window that misses the cover of the group that begins at `at` misses its boxes
pub cover-misses : (boxes : List Area) (order : List ℕ) (grouped end at : ℕ) (level : Level) (window cover : Area) →
    IsLevel boxes order grouped level → at % level.size ≡ 0 → slice_get level.covers.items (at / level.size) ≡ Some cover →
    (Meets window cover → ⊥) → end ≤ grouped → end ≤ at + level.size → Misses window boxes order at end
cover-misses boxes order grouped end at level window cover kept start is missed inside last i p q m =
    let whole : at / level.size * level.size + at % level.size ≡ at = div-add-mod' at level.size in
    let e : i ≡ at / level.size * level.size + (i - at) = omega (arith, whole, start) in
    let g : i / level.size ≡ at / level.size = ap (λ n. n / level.size) e ∙ div-mul-add (at / level.size) level.size (i - at) (omega arith) in
    missed (m.2.0, m.2.1, kept.covers i cover m.0 (omega arith) (rw g is) m.1 m.2.0 m.2.2)

-- empty groups keep what groups of no boxes have to
pub kept-none : (groups : Groups) → groups.order.items ≡ [] → groups.levels.items ≡ [] → groups.grouped ≡ 0 → IsKept groups []
kept-none groups d e f = record {
  order = rw d order-none;
  grouped = omega (arith, f);
  levels = λ k l h. absurd (omega (arith, h, ap length e));
  count = omega arith;
}

-- one more box, whose index comes last in the order, is in no group
pub kept-more : (old new : Groups) (boxes : List Area) (area : Area) (index : ℕ) → index < 2 ^ 32 → length boxes ≡ index →
    new.order.items ≡ old.order.items ++ index ∷ [] → new.levels ≡ old.levels → new.grouped ≡ old.grouped →
    IsKept old boxes → IsKept new (boxes ++ area ∷ [])
kept-more old new boxes area index small count d e f kept = record {
  order = rw (d, length-append boxes (area ∷ []), count) (order-more index old.order.items (rw count at kept.order));
  grouped = rw (d, length-append old.order.items (index ∷ []), f) (omega (arith, kept.grouped));
  levels = rw (d, e, f) (λ k l h. level-more old boxes area index count kept _ (kept.levels k l h));
  count = rw (length-append boxes (area ∷ [])) (omega (arith, count));
}
  where
    level-more : (old : Groups) (boxes : List Area) (area : Area) (index : ℕ) → length boxes ≡ index → IsKept old boxes → (level : Level) →
        IsLevel boxes old.order.items old.grouped level → IsLevel (boxes ++ area ∷ []) (old.order.items ++ index ∷ []) old.grouped level
    level-more old boxes area index count kept level l = record {
      size = l.size;
      covers = λ i cover x h is box.
          let p : i < length old.order.items = omega (arith, kept.grouped) in
          let e : get_or (old.order.items ++ index ∷ []) i 0 ≡ get_or old.order.items i 0 = get_or_append_left old.order.items (index ∷ []) 0 i p in
          let q : get_or old.order.items i 0 < length boxes = (kept.order.exact (get_or old.order.items i 0)).0 (Contains-get_or old.order.items i 0 p) in
          let was : slice_get boxes (get_or old.order.items i 0) ≡ Some x = sym (get-left boxes (area ∷ []) (get_or old.order.items i 0) q) ∙ (rw e at box) in
          l.covers i cover x h is was;
    }

-- a level of the same groups, with equal covers
pub level-same : (boxes : List Area) (order : List ℕ) (grouped : ℕ) (old new : Level) → new.size ≡ old.size → new.covers.items ≡ old.covers.items →
    IsLevel boxes order grouped old → IsLevel boxes order grouped new
level-same boxes order grouped old new d e l = record { size = rw d l.size; covers = rw (d, e) l.covers }

-- groups of an equal order, whose levels cover what others cover, keep what these keep
pub kept-same : (old new : Groups) → new.order.items ≡ old.order.items → new.grouped ≡ old.grouped →
    ((boxes : List Area) (order : List ℕ) (grouped : ℕ) → All (IsLevel boxes order grouped) old.levels.items → All (IsLevel boxes order grouped) new.levels.items) →
    (boxes : List Area) → IsKept old boxes → IsKept new boxes
kept-same old new d e f boxes kept = record {
  order = rw d kept.order;
  grouped = rw (d, e) kept.grouped;
  levels = rw (d, e) (f boxes old.order.items old.grouped kept.levels);
  count = kept.count;
}
