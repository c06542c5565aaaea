-- What marked cells keep, and what marking another adds.
use Rattle.std.proofs.Common.{◌≡◌, ℕ, ◌<◌, Bool, true, false, cond, refl, sym, ◌∙◌, ap, ⊎_elim, inl, inr, arith}
use Rattle.std.proofs.lemmas.Bool.{false≢true}
use Rattle.std.proofs.lemmas.Map.Lookups.{exact_pairs, exact_unsigned}
use Rattle.std.specs.BTreeMap.{is_at}
use Rattle.std.specs.BTreeSet.{BTreeSet, UpdatesBy}
use Rattle.std.specs.Ordering.{is_eq, nat_cmp, ordering_then}
use Rattle.std.specs.declared.cmp.Ordering.{Ordering}
use Rattle.std.specs.declared.cmp.Ordering.TheVariants.{Less, Equal, Greater}
use Rattle.std.specs.Prelude.{◌⊎◌}
use Rattle.labelcache.specs.Cells.{cell_cmp, has}
use Rattle.labelcache.specs.declared.cells.Cell.{Cell}

equal-from : (o : Ordering) → is_eq o ≡ true → o ≡ Equal
equal-from Less h = absurd (false≢true h)
equal-from Equal h = refl
equal-from Greater h = absurd (false≢true h)

abbrev pub key_of : Cell → ℕ × (ℕ × ℕ)
key_of cell = (cell.level, (cell.column, cell.row))

-- two cells that are equal in the order are the same
same-cell : (a b : Cell) → cell_cmp (key_of a) (key_of b) ≡ Equal → b ≡ a
same-cell a b h =
    let e : key_of a ≡ key_of b = exact_pairs nat_cmp (λ x y. ordering_then (nat_cmp x.0 y.0) (nat_cmp x.1 y.1)) exact_unsigned
    (exact_pairs nat_cmp nat_cmp exact_unsigned exact_unsigned) (key_of a) (key_of b) h in
    ap (λ (k : ℕ × (ℕ × ℕ)). record { level = k.0; column = k.1.0; row = k.1.1 }) (sym e)

either : (b old new : Bool) → new ≡ cond b true old → new ≡ true → (old ≡ true) ⊎ (b ≡ true)
either true old new e h = inr refl
either false old new e h = inl (sym e ∙ h)

stays : (b old new : Bool) → new ≡ cond b true old → old ≡ true → new ≡ true
stays true old new e h = e
stays false old new e h = e ∙ h

-- what was marked stays marked
pub marks-more : (old new : BTreeSet (ℕ × (ℕ × ℕ))) (cell q : Cell) → UpdatesBy cell_cmp (cell_cmp (key_of cell)) old new true →
    has old q ≡ true → has new q ≡ true
marks-more old new cell q u h = stays (is_at (cell_cmp (key_of cell)) (key_of q)) (has old q) (has new q) (u.0 (key_of q)) h

-- and only that cell is marked besides
pub marks-only : (old new : BTreeSet (ℕ × (ℕ × ℕ))) (cell q : Cell) → UpdatesBy cell_cmp (cell_cmp (key_of cell)) old new true →
    has new q ≡ true → (has old q ≡ true) ⊎ (q ≡ cell)
marks-only old new cell q u h = ⊎_elim
    (λ (e : has old q ≡ true). inl e)
    (λ (e : is_at (cell_cmp (key_of cell)) (key_of q) ≡ true). inr (same-cell cell q (equal-from (cell_cmp (key_of cell) (key_of q)) e)))
    (either (is_at (cell_cmp (key_of cell)) (key_of q)) (has old q) (has new q) (u.0 (key_of q)) h)

-- a cell of the lowest level is not one of a higher level
pub level-of : (a b : Cell) (level : ℕ) → a ≡ b → a.level ≡ 0 → b.level ≡ level → 0 < level → ⊥
level-of a b level e low is some = let f : a.level ≡ b.level = ap (λ (c : Cell). c.level) e in absurd (omega (arith, f, low, is, some))
