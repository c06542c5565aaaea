-- The rows from the first one to the last one of two groups.
use Rattle.std.proofs.Common.{◌≡◌, ℕ, ◌≤◌, Bool, true, false, if◌then◌else◌, min, max, refl, arith}
use Rattle.std.proofs.lemmas.Bool.{leb-true}
use Rattle.std.specs.Prelude.{nat_le}
use Rattle.clip.specs.EdgeClass.{has_row, joined}
use Rattle.clip.specs.declared.rows.RowRange.{RowRange}
use Rattle.clip.proofs.Cases.{no-rows}

-- a row that isn't one of them is one of neither group
pub joined-neither : (a b : RowRange) (j : ℕ) → has_row (joined a b) j ≡ false → (has_row a j ≡ false) × (has_row b j ≡ false)
joined-neither a b j = go (nat_le b.to b.from) (nat_le a.to a.from) refl refl
  where
    go : (s t : Bool) → nat_le b.to b.from ≡ s → nat_le a.to a.from ≡ t →
        has_row (if s then a else (if t then b else record { from = min a.from b.from; to = max a.to b.to })) j ≡ false → (has_row a j ≡ false) × (has_row b j ≡ false)
    go true t e f h = (h, no-rows b.from b.to j (leb-true b.to b.from e))
    go false true e f h = (no-rows a.from a.to j (leb-true a.to a.from f), h)
    go false false e f h = (grind arith, grind arith)

-- they end where one group ends at the latest
pub joined-within : (a b : RowRange) (h : ℕ) → a.to ≤ h → b.to ≤ h → (joined a b).to ≤ h
joined-within a b h p q = go (nat_le b.to b.from) (nat_le a.to a.from)
  where
    go : (s t : Bool) → (if s then a else (if t then b else record { from = min a.from b.from; to = max a.to b.to })).to ≤ h
    go true t = p
    go false true = q
    go false false = omega arith
