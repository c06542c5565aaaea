-- The parts of a value, one after the other.
use Rattle.std.proofs.Common.{length-drop, ◌≡◌, ◌≤◌, inl, inr, ◌↔◌, IsTrue, Bool, true, false, ◌||◌, sym, ℕ, zero, suc, ◌+◌, ◌<◌, List, [], ◌∷◌, map, length, get_or, take, drop, refl, ap, ◌∙◌, arith}
use Rattle.std.proofs.lemmas.Bool.Decides.{leb_tells}
use Rattle.httparse.specs.Grammar.{trim_ows}
use Rattle.httparse.specs.Spans.{span_bytes, header_bytes}
use Rattle.httparse.specs.declared.spans.HeaderSpan.{HeaderSpan}
use Rattle.std.proofs.Math.Bool.{or-true, or-false}
use Rattle.std.specs.List.{list_any, position_or_len}
use Rattle.std.proofs.lemmas.List.{take_all, drop-drop}
use Rattle.std.specs.Str.{bytes_eq}
use Rattle.std.proofs.lemmas.Slice.Eq.{bytes_eq-Decides}
use Rattle.httpedge.specs.Fields.{split_commas, parts, is_comma, is_close}

abbrev at : List ℕ → ℕ
at xs = position_or_len is_comma xs

-- the first part ends at the first comma
next-by : (b : ℕ) (bs : List ℕ) (t : Bool) → is_comma b ≡ t → (at bs < length bs → split_commas bs ≡ take (at bs) bs ∷ split_commas (drop (suc (at bs)) bs)) →
    at (b ∷ bs) < length (b ∷ bs) → split_commas (b ∷ bs) ≡ take (at (b ∷ bs)) (b ∷ bs) ∷ split_commas (drop (suc (at (b ∷ bs))) (b ∷ bs))
next-by b bs true e others inside = rw e refl
next-by b bs false e others inside =
    let short : at bs < length bs = omega (arith, rw e at inside) in
    let one : 1 + at bs ≡ suc (at bs) = omega arith in
    rw (e, others short, one) refl

split-next : (xs : List ℕ) → at xs < length xs → split_commas xs ≡ take (at xs) xs ∷ split_commas (drop (suc (at xs)) xs)
split-next [] inside = absurd (omega arith)
split-next (b ∷ bs) inside = next-by b bs (is_comma b) refl (split-next bs) inside

last-by : (b : ℕ) (bs : List ℕ) (t : Bool) → is_comma b ≡ t → (at bs ≡ length bs → split_commas bs ≡ bs ∷ []) → at (b ∷ bs) ≡ length (b ∷ bs) → split_commas (b ∷ bs) ≡ (b ∷ bs) ∷ []
last-by b bs true e others whole = let n : 0 ≡ length (b ∷ bs) = sym (rw e refl) ∙ whole in absurd (omega (arith, n))
last-by b bs false e others whole =
    let all : at bs ≡ length bs = omega (arith, rw e at whole) in
    rw (e, others all) refl

split-last : (xs : List ℕ) → at xs ≡ length xs → split_commas xs ≡ xs ∷ []
split-last [] whole = refl
split-last (b ∷ bs) whole = last-by b bs (is_comma b) refl (split-last bs) whole

-- the parts are the first, and those of what follows its comma
pub parts-next : (xs : List ℕ) (n : ℕ) → n ≡ at xs → n < length xs → list_any is_close (parts xs) ≡ (is_close (trim_ows (take n xs)) || list_any is_close (parts (drop (suc n) xs)))
unfolding parts
parts-next xs n e inside = rw e (ap (λ l. list_any is_close (map trim_ows l)) (split-next xs (omega (arith, e, inside))))

-- or the first alone
pub parts-last : (xs : List ℕ) (n : ℕ) → n ≡ at xs → n ≡ length xs → list_any is_close (parts xs) ≡ is_close (trim_ows (take n xs))
unfolding parts
parts-last xs n e whole =
    let first : list_any is_close (parts xs) ≡ (is_close (trim_ows xs) || false) = ap (λ l. list_any is_close (map trim_ows l)) (split-last xs (sym e ∙ whole)) in
    first ∙ or-false (is_close (trim_ows xs)) ∙ ap (λ l. is_close (trim_ows l)) (sym (take_all n xs (omega (arith, whole))))

-- a test that some element passes
pub any-at : {X Y : Type 0} (p : Y → Bool) (f : X → Y) (xs : List X) (i : ℕ) (d : X) → i < length xs → p (f (get_or xs i d)) ≡ true → list_any p (map f xs) ≡ true
any-at p f [] i d inside passes = absurd (omega arith)
any-at p f (x ∷ xs) zero d inside passes = rw passes refl
any-at p f (x ∷ xs) (suc i) d inside passes = rw (any-at p f xs i d (omega arith) passes) (or-true (p (f x)))

-- a field at a position passes
pub field-at : (p : List ℕ × List ℕ → Bool) (bytes : List ℕ) (fields : List HeaderSpan) (i : ℕ) (d : HeaderSpan) (name value : List ℕ) (answer : Bool) → i < length fields →
    name ≡ span_bytes bytes (get_or fields i d).name → value ≡ span_bytes bytes (get_or fields i d).value → answer ≡ p (name, value) → answer ≡ true →
    list_any p (map (header_bytes bytes) fields) ≡ true
field-at p bytes fields i d name value answer inside n v is passes =
    any-at p (header_bytes bytes) fields i d inside (rw (← n, ← v) (sym is ∙ passes))

-- an answer that is true for equal texts alone is their comparison
pub same-text : (answer : Bool) (a b : List ℕ) → (IsTrue answer ↔ (a ≡ b)) → answer ≡ bytes_eq a b
same-text answer a b decides = grind (arith, bytes_eq-Decides)

pub is-first : (rest value : List ℕ) (n : ℕ) (answer : Bool) → n ≡ at rest → n ≤ length rest → answer ≡ is_close (trim_ows (take n rest)) → answer ≡ true →
    list_any is_close (parts rest) ≡ list_any is_close (parts value) → true ≡ list_any is_close (parts value)
is-first rest value n answer e bound is passes before =
    let first : is_close (trim_ows (take n rest)) ≡ true = sym is ∙ passes in
    elim (leb_tells (length rest) n) [
      | inl whole ↦ sym (parts-last rest n e (omega (arith, whole.1, bound)) ∙ first) ∙ before
      | inr inside ↦ sym (parts-next rest n e (omega (arith, inside.1)) ∙ rw first refl) ∙ before
    ]

pub is-last : (rest value after : List ℕ) (n : ℕ) (answer : Bool) → n ≡ at rest → n ≤ length rest → answer ≡ is_close (trim_ows (take n rest)) → answer ≡ false → after ≡ drop n rest → length after ≡ 0 →
    list_any is_close (parts rest) ≡ list_any is_close (parts value) → false ≡ list_any is_close (parts value)
is-last rest value after n answer e bound is fails back none before =
    let whole : n ≡ length rest = omega (arith, bound, ap length back, length-drop n rest, none) in
    sym fails ∙ is ∙ sym (parts-last rest n e whole) ∙ before

pub is-later : (rest value after others : List ℕ) (x n : ℕ) (answer : Bool) → n ≡ at rest → n ≤ length rest → answer ≡ is_close (trim_ows (take n rest)) → answer ≡ false → after ≡ drop n rest → after ≡ x ∷ others →
    list_any is_close (parts rest) ≡ list_any is_close (parts value) → list_any is_close (parts others) ≡ list_any is_close (parts value)
is-later rest value after others x n answer e bound is fails back some before =
    let first : is_close (trim_ows (take n rest)) ≡ false = sym is ∙ fails in
    let inside : n < length rest = omega (arith, bound, ap length back, length-drop n rest, ap length some) in
    let one : n + 1 ≡ suc n = omega arith in
    let same : others ≡ drop (suc n) rest = ap (drop 1) (sym some ∙ back) ∙ drop-drop 1 n rest ∙ ap (λ m. drop m rest) one in
    rw same (sym (parts-next rest n e inside ∙ rw first refl) ∙ before)
