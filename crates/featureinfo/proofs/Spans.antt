-- A row of a cover contains one of some columns where one of its spans does.
use Rattle.std.proofs.Common.{◌≡◌, ℕ, ◌<◌, ◌≤◌, Bool, true, false, ◌||◌, nat_lt, List, [], ◌∷◌, refl, sym, ◌∙◌, arith}
use Rattle.std.proofs.lemmas.Bool.{and_parts, ltb-true, ltb-false, lt-ltb}
use Rattle.std.specs.List.{list_any}
use Rattle.scanfill.specs.declared.span.Span.{Span}
use Rattle.scanfill.specs.Runs.{AreRunsFrom, IsRunFrom}
use Rattle.featureinfo.specs.Nearby.{meets}

-- a column of a run that has one of those columns
pub record Found (test : ℕ → Bool) (left right : ℕ) : Type 0 where
  pub column : ℕ
  pub least : left ≤ column
  pub most : column < right
  pub passes : test column ≡ true

in-run : (test : ℕ → Bool) (start end left right : ℕ) (span : Span) → IsRunFrom test start end span → left < right → span.from < right → left < span.to → Found test left right
in-run test start end left right span run lt before after = of (nat_lt left span.from) refl
  where
    of : (t : Bool) → nat_lt left span.from ≡ t → Found test left right
    of true e = let below : left < span.from = ltb-true _ _ e in
        record { column = span.from; least = omega arith; most = before; passes = run.inside span.from (omega arith) run.some }
    of false e = let above : span.from ≤ left = ltb-false _ _ e in
        record { column = left; least = omega arith; most = lt; passes = run.inside left above after }

-- where one of the spans does, some column passes
pub some-passes : (test : ℕ → Bool) (start end left right : ℕ) (spans : List Span) → AreRunsFrom test start end spans → left < right →
    list_any (meets left right) spans ≡ true → Found test left right
some-passes test start end left right [] runs lt h = cc
some-passes test start end left right (span ∷ spans) runs lt h = of (some-passes test span.to end left right spans runs.1 lt) (meets left right span) refl h
  where
    of : (list_any (meets left right) spans ≡ true → Found test left right) → (t : Bool) → meets left right span ≡ t → (t || list_any (meets left right) spans) ≡ true → Found test left right
    of later true e h =
        let both = and_parts (nat_lt span.from right) (nat_lt left span.to) e in
        in-run test start end left right span runs.0 lt (ltb-true _ _ both.0) (ltb-true _ _ both.1)
    of later false e h = later h

-- where none of the spans does, no column passes
pub none-passes : (test : ℕ → Bool) (start end left right : ℕ) (spans : List Span) → AreRunsFrom test start end spans →
    list_any (meets left right) spans ≡ false → (c : ℕ) → start ≤ c → c < end → left ≤ c → c < right → test c ≡ false
none-passes test start end left right [] runs h c least most in_left in_right = runs c least most
none-passes test start end left right (span ∷ spans) runs h c least most in_left in_right =
    of (λ rest past. none-passes test span.to end left right spans runs.1 rest c past most in_left in_right) (meets left right span) refl h (nat_lt c span.from) refl (nat_lt c span.to) refl
  where
    of : (list_any (meets left right) spans ≡ false → span.to ≤ c → test c ≡ false) → (t : Bool) → meets left right span ≡ t → (t || list_any (meets left right) spans) ≡ false →
        (b : Bool) → nat_lt c span.from ≡ b → (a : Bool) → nat_lt c span.to ≡ a → test c ≡ false
    of later true e h b f a g = cc
    of later false e h true f a g = runs.0.before c least (ltb-true _ _ f)
    of later false e h false f true g =
        let below : c < span.to = ltb-true _ _ g in
        let from : span.from ≤ c = ltb-false _ _ f in
        let met : meets left right span ≡ true = rw (lt-ltb span.from right (omega arith), lt-ltb left span.to (omega arith)) refl in
        absurd (clash (sym met ∙ e))
      where
        clash : true ≡ false → ⊥
        clash p = cc
    of later false e h false f false g = later h (ltb-false _ _ g)
