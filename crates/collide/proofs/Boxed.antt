-- Boxes by the pixels that are marked.
use Rattle.std.proofs.Common.{◌≡◌, ◌∙◌, ℕ, ◌+◌, ◌<◌, ◌≤◌, ◌↔◌, ◌⊎◌, inl, inr, Bool, true, List, [], ◌∷◌, ◌++◌, length, sym, arith, ⊎_elim}
use Rattle.std.proofs.lemmas.Bool.{cases_lt}
use Rattle.std.proofs.lemmas.Int.{ints, clamps}
use Rattle.std.proofs.lemmas.List.{get_or_append_left, length-append}
use Rattle.std.proofs.lemmas.List.Elements.{All-push}
use Rattle.std.proofs.lemmas.List.Quantifiers.{Any-push}
use Rattle.std.proofs.Math.Seq.{get_or-append_seam}
use Rattle.std.specs.Int.{int_max}
use Rattle.std.specs.List.{Any}
use lib.IntN.{ℤ, pos, negsuc, ◌-ℤ◌}
use lib.Signed.{◌<ℤ◌, ◌≤ℤ◌}
use Rattle.geom.specs.PxBox.{PixelBoxValue, Meets, Overlap}
use Rattle.geom.proofs.Boxes.{meets-across, meets-down}
use Rattle.collide.specs.declared.marks.Marks.{Marks}
use Rattle.collide.specs.Marks.{HasMarked, HasPixelOf, IsKept, IsMarked, IsMarkedBy, IsMarkable, IsWhole, around}

-- three ranges of which any two share a position share one
three : (a b c d e f : ℤ) → Overlap a b c d → Overlap a b e f → Overlap c d e f →
    (z : ℤ) × (a ≤ℤ z) × (z <ℤ b) × (c ≤ℤ z) × (z <ℤ d) × (e ≤ℤ z) × (z <ℤ f)
three a b c d e f x y z =
    let p : a ≤ℤ x.0 = x.1 in
    let q : x.0 <ℤ b = x.2 in
    let r : c ≤ℤ x.0 = x.3 in
    let s : x.0 <ℤ d = x.4 in
    let t : a ≤ℤ y.0 = y.1 in
    let u : y.0 <ℤ b = y.2 in
    let v : e ≤ℤ y.0 = y.3 in
    let w : y.0 <ℤ f = y.4 in
    let g : c ≤ℤ z.0 = z.1 in
    let h : z.0 <ℤ d = z.2 in
    let i : e ≤ℤ z.0 = z.3 in
    let j : z.0 <ℤ f = z.4 in (
      int_max a (int_max c e),
      omega (arith, ints, clamps),
      omega (arith, ints, clamps),
      omega (arith, ints, clamps),
      omega (arith, ints, clamps),
      omega (arith, ints, clamps),
      omega (arith, ints, clamps),
    )

-- the bit of a column, or a row, that has one
numbered : (count : ℕ) (z : ℤ) → negsuc 0 ≤ℤ z → z <ℤ (pos count -ℤ pos 1) → (i : ℕ) × (i < count) × ((pos i -ℤ pos 1) ≡ z)
numbered count (pos n) low high = (n + 1, omega (arith, ints, high), omega (arith, ints))
numbered count (negsuc n) low high = (0, omega (arith, ints, high, low), omega (arith, ints, low))

-- what holds for one element of a list holds for one of a longer list
pub any-left : {X : Type 0} (P : X → Type 0) (xs ys : List X) → Any P xs → Any P (xs ++ ys)
any-left P xs ys a = (a.0, a.1, omega (arith, a.2, length-append xs ys), get_or_append_left xs ys a.1 a.0 a.2 ∙ a.3, a.4)

any-cases : {X : Type 0} (P : X → Type 0) (xs : List X) (y : X) → Any P (xs ++ y ∷ []) → P y ⊎ Any P xs
any-cases P xs y a = ⊎_elim
    (λ (lt : a.0 < length xs). inr (a.0, a.1, lt, sym (get_or_append_left xs (y ∷ []) a.1 a.0 lt) ∙ a.3, a.4))
    (λ (ge : length xs ≤ a.0).
    let e : a.0 ≡ length xs = omega (arith, ge, a.2, length-append xs (y ∷ [])) in
    let is : y ≡ a.1 = sym (get_or-append_seam xs y [] a.1) ∙ (rw e at a.3) in
    inl (rw is a.4))
    (cases_lt a.0 (length xs))

-- one more box is kept where its pixels are marked
pub kept-more : (old new : Marks) (all both : Bool) (boxes : List PixelBoxValue) (area : PixelBoxValue) → IsKept old all boxes → IsWhole new → new.columns ≡ old.columns → new.rows ≡ old.rows →
    IsMarkedBy area old new → (both ≡ true → (all ≡ true) × IsMarkable old area) → IsKept new both (boxes ++ area ∷ [])
kept-more old new all both boxes area kept whole columns rows marked is = record {
  whole = whole;
  marked = λ i j hi hj.
      let a = rw columns at hi in
      let b = rw rows at hj in
      let m = marked i j a b in
      let k = kept.marked i j a b in
      let here = λ (x : PixelBoxValue). HasPixelOf x i j in (
        λ h. ⊎_elim
            (λ (p : HasPixelOf area i j). Any-push here boxes area p)
            (λ (q : IsMarked old i j). any-left here boxes (area ∷ []) (k.0 q))
            (m.0 h),
        λ any. m.1 (⊎_elim
            (λ (p : HasPixelOf area i j). inl p)
            (λ (q : Any here boxes). inr (k.1 q))
            (any-cases here boxes area any)),
      );
  near = λ e. rw (columns, rows) (All-push (IsMarkable old) boxes area (kept.near (is e).0) (is e).1);
}

-- a box that is near hits one of boxes that all are where a pixel of it is marked
pub near-hits : (marks : Marks) (all : Bool) (boxes : List PixelBoxValue) (area : PixelBoxValue) → IsKept marks all boxes → all ≡ true → IsMarkable marks area →
    HasMarked marks area ↔ Any (Meets area) boxes
near-hits marks all boxes area kept all_near near = (
  λ h.
      let a = (kept.marked h.column h.row h.left h.up).0 h.is in
      (a.0, a.1, a.2, a.3, (pos h.column -ℤ pos 1, pos h.row -ℤ pos 1, h.has, a.4)),
  λ a.
      let x = a.1 in
      let m = a.4 in
      let to = near (m.0, m.1, m.2, m.2) in
      let other = kept.near all_near a.0 x a.2 in
      let from = rw a.3 at other in
      let round = from (m.0, m.1, m.3, m.3) in
      let window = around marks in
      let across = three area.left area.right x.left x.right window.left window.right (meets-across area x m) (meets-across area window to) (meets-across x window round) in
      let down = three area.top area.bottom x.top x.bottom window.top window.bottom (meets-down area x m) (meets-down area window to) (meets-down x window round) in
      let i = numbered marks.columns across.0 across.5 across.6 in
      let j = numbered marks.rows down.0 down.5 down.6 in
      record {
        column = i.0;
        row = j.0;
        left = i.1;
        up = j.1;
        has = rw (i.2, j.2) (record { left = across.1; right = across.2; top = down.1; bottom = down.2 });
        is = (kept.marked i.0 j.0 i.1 j.1).1 (a.0, x, a.2, a.3, rw (i.2, j.2) (record { left = across.3; right = across.4; top = down.3; bottom = down.4 }));
      },
)
