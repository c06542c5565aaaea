-- What each class of an edge means.
use Rattle.std.proofs.Common.{◌≡◌, ◌∙◌, ℕ, ◌<◌, ◌≤◌, Bool, true, false, ◌&&◌, ◌||◌, if◌then◌else◌, refl, sym, ap, arith, inl, inr}
use Rattle.std.proofs.lemmas.Bool.{leb-true, leb-false, lt-ltb}
use Rattle.std.specs.Prelude.{nat_le, nat_lt}
use Rattle.geom.specs.Edge.{EdgeEnds}
use Rattle.clip.specs.EdgeClass.{rows_of, has_row, crosses_row, is_left_of_view, is_right_of_view, class_of, AreRowsOf, IsClass}
use Rattle.clip.specs.declared.class.EdgeClass.TheVariants as class
use Rattle.clip.specs.declared.rows.RowRange.{RowRange}
use Rattle.clip.proofs.Rowed.{rows_of-all}

-- rows that end before they begin are none
pub no-rows : (a b j : ℕ) → b ≤ a → (nat_le a j && nat_lt j b) ≡ false
no-rows a b j h = grind arith

-- an edge whose rows are none crosses no row of the view
pub none-crossed : (e : EdgeEnds) (h : ℕ) (rows : RowRange) → rows ≡ rows_of e h → nat_le rows.to rows.from ≡ true → (j : ℕ) → j < h → crosses_row e j ≡ false
none-crossed e h rows same none j below =
    rw (lt-ltb j h below) at (sym (rows_of-all e h j) ∙ (ap (λ (r : RowRange). has_row r j) (sym same) ∙ no-rows rows.from rows.to j (leb-true rows.to rows.from none)))

-- rows that are some are those that it crosses
pub some-crossed : (e : EdgeEnds) (h : ℕ) (rows : RowRange) → rows ≡ rows_of e h → nat_le rows.to rows.from ≡ false → AreRowsOf e h rows
some-crossed e h rows same some = record {
  some = leb-false rows.to rows.from some;
  all = λ j. ap (λ (r : RowRange). has_row r j) same ∙ rows_of-all e h j;
}

pub IsClass-class_of : (e : EdgeEnds) (w h : ℕ) → IsClass e w h (class_of e w h)
unfolding class_of
IsClass-class_of e w h = go (nat_le (rows_of e h).to (rows_of e h).from) (is_right_of_view e w) (is_left_of_view e) refl refl refl
  where
    go : (o r l : Bool) → nat_le (rows_of e h).to (rows_of e h).from ≡ o → is_right_of_view e w ≡ r → is_left_of_view e ≡ l →
        IsClass e w h (if o || r then class.Drop else (if l then class.LeftOfView (rows_of e h) else class.Walk (rows_of e h)))
    go true r l p q s = inl (none-crossed e h (rows_of e h) refl p)
    go false true l p q s = inr q
    go false false true p q s = (some-crossed e h (rows_of e h) refl p, q, s)
    go false false false p q s = (some-crossed e h (rows_of e h) refl p, q, s)
