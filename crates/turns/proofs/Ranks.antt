-- The slots of a worker: how many bytes they are owed, and which gives way first.
use Rattle.std.proofs.Common.{◌≡◌, ◌∙◌, ◌<◌, ◌≤◌, ◌+◌, ℕ, suc, zero, List, [], ◌∷◌, ◌++◌, Option, None, Some, Bool, true, false, inl, inr, length, get_or, nat_lt, refl, sym, ap, subst, arith, if◌then◌else◌}
use Rattle.std.proofs.lemmas.Bool.{cases_lt, ltb-true, ltb-false}
use Rattle.std.proofs.lemmas.List.{get_or_past}
use Rattle.turns.proofs.Order.{neither}
use Rattle.turns.specs.Pressure.{first_of, rank_at, rank_of, IsFoundIn, IsFirst, NoneMay, YieldsWithoutTurn}
use Rattle.turns.specs.Queue.{has}
use Rattle.turns.specs.Table.{connections, ready_slots, waiting_slots, is_pending}
use Rattle.turns.specs.declared.pressure.Pressure.{Pressure}
use Rattle.turns.specs.declared.table.ConnectionTable.{ConnectionTable}

-- one more free slot
pub free-more : {X : Type 0} (xs : List (Option X)) → ((slot : ℕ) → get_or xs slot None ≡ None) → (slot : ℕ) → get_or (xs ++ None ∷ []) slot None ≡ None
free-more [] free zero = refl
free-more [] free (suc slot) = refl
free-more (x ∷ xs) free zero = free 0
free-more (x ∷ xs) free (suc slot) = free-more xs (λ i. free (suc i)) slot

-- no connection beyond the slots has a rank
rank-past : {T : Type 0} (pressure : Pressure) (table : ConnectionTable T) (slot : ℕ) → length (connections table) ≤ slot → rank_at pressure table slot ≡ None
rank-past pressure table slot past = go (is_pending table slot) refl
  where
    go : (pending : Bool) → is_pending table slot ≡ pending → rank_at pressure table slot ≡ None
    go true e = rw e refl
    go false e = rw e (ap (rank_of pressure) (get_or_past (connections table) slot None past))

-- a slot below the next one is below this one, or is this one
below-next : (P : ℕ → Type 0) (other slot : ℕ) → other < slot + 1 → (other < slot → P other) → P slot → P other
below-next P other slot less before here = elim (cases_lt other slot) [
  | inl below ↦ before below
  | inr past ↦ let same : slot ≡ other = omega (arith, less, past) in subst P same here
]

-- a search goes on by one slot
pub found-next : {T : Type 0} (pressure : Pressure) (table : ConnectionTable T) (slot : ℕ) (found : Option (ℕ × ℕ)) → IsFoundIn pressure table slot found → IsFoundIn pressure table (slot + 1) (first_of found slot (rank_at pressure table slot))
found-next pressure table slot found was = go (rank_at pressure table slot) refl found was
  where
    none-is : (r : Option ℕ) (k : ℕ) → r ≡ None → r ≡ Some k → ⊥
    none-is r k none some = let h : ◌≡◌ {A = Option ℕ} None (Some k) = sym none ∙ some in cc h

    same-is : (r : Option ℕ) (k l : ℕ) → r ≡ Some k → r ≡ Some l → k ≤ l
    same-is r k l one other = let h : ◌≡◌ {A = Option ℕ} (Some k) (Some l) = sym one ∙ other in let e : k ≡ l = cc h in omega (arith, e)

    go : (r : Option ℕ) → rank_at pressure table slot ≡ r → (f : Option (ℕ × ℕ)) → IsFoundIn pressure table slot f → IsFoundIn pressure table (slot + 1) (first_of f slot r)
    go None is None none = λ other less. below-next (λ o. rank_at pressure table o ≡ None) other slot less (none other) is
    go None is (Some (at, least)) (there, others) = (
      there,
      λ other other_rank less. below-next (λ o. rank_at pressure table o ≡ Some other_rank → least ≤ other_rank) other slot less (λ below. others other other_rank below) (λ some. absurd (none-is _ other_rank is some)),
    )
    go (Some rank) is None none = (
      is,
      λ other other_rank less. below-next (λ o. rank_at pressure table o ≡ Some other_rank → rank ≤ other_rank) other slot less (λ below some. absurd (none-is _ other_rank (none other below) some)) (λ some. same-is _ rank other_rank is some),
    )
    go (Some rank) is (Some (at, least)) (there, others) = pick (nat_lt rank least) refl
      where
        pick : (b : Bool) → nat_lt rank least ≡ b → IsFoundIn pressure table (slot + 1) (if b then Some (slot, rank) else Some (at, least))
        pick true e = let lower = ltb-true rank least e in (
          is,
          λ other other_rank less. below-next (λ o. rank_at pressure table o ≡ Some other_rank → rank ≤ other_rank) other slot less (λ below some. let l = others other other_rank below some in omega (arith, l, lower)) (λ some. same-is _ rank other_rank is some),
        )
        pick false e = let higher = ltb-false rank least e in (
          there,
          λ other other_rank less. below-next (λ o. rank_at pressure table o ≡ Some other_rank → least ≤ other_rank) other slot less (λ below. others other other_rank below) (λ some. let l = same-is _ rank other_rank is some in omega (arith, l, higher)),
        )

-- the slot found in all slots is the first
pub found-first : {T : Type 0} (pressure : Pressure) (table : ConnectionTable T) (count slot least : ℕ) → length (connections table) ≤ count →
    IsFoundIn pressure table count (Some (slot, least)) → IsFirst pressure table slot
found-first pressure table count slot least all (is, others) = record {
  least = least;
  is = is;
  others = λ other rank ranked. elim (cases_lt other count) [
    | inl less ↦ others other rank less ranked
    | inr past ↦ absurd (let h : ◌≡◌ {A = Option ℕ} None (Some rank) = sym (rank-past pressure table other (omega (arith, all, past))) ∙ ranked in cc)
  ];
}

-- and where none was found, no connection may give way
pub none-found : {T : Type 0} (pressure : Pressure) (table : ConnectionTable T) (count : ℕ) → length (connections table) ≤ count → IsFoundIn pressure table count None → NoneMay pressure table
none-found pressure table count all none slot = elim (cases_lt slot count) [
  | inl less ↦ none slot less
  | inr past ↦ rank-past pressure table slot (omega (arith, all, past))
]

-- where the connection at a slot has nothing to do, it has no turn, and doesn't wait for room
pub neither-pending : {T : Type 0} (table : ConnectionTable T) (slot : ℕ) → is_pending table slot ≡ false → (has slot (ready_slots table) ≡ false) × (has slot (waiting_slots table) ≡ false)
neither-pending table slot none = neither (has slot (ready_slots table)) (has slot (waiting_slots table)) none

-- a connection with a rank has nothing to do
pub yields-without-turn : {T : Type 0} → YieldsWithoutTurn T
yields-without-turn pressure table slot first = go (is_pending table slot) refl
  where
    go : (pending : Bool) → is_pending table slot ≡ pending → (has slot (ready_slots table) ≡ false) × (has slot (waiting_slots table) ≡ false)
    go true e = absurd (let h : ◌≡◌ {A = Option ℕ} None (Some first.least) = rw e at first.is in cc)
    go false e = neither-pending table slot e
