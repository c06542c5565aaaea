-- The last change of a kind and layer, by its index.
use Rattle.std.proofs.Common.{◌≡◌, ◌∙◌, ℕ, suc, Bool, true, false, if◌then◌else◌, List, [], ◌∷◌, ◌++◌, Option, None, Some, position, slice_index_or, slice_set, refl, sym, ap}
use Rattle.std.specs.Option.{option_map}
use Rattle.batches.specs.declared.command.Command.{Command}
use Rattle.compaction.specs.LastChanges.{changed, is_of, is_switch, last_noted, name_of}
use Rattle.compaction.specs.declared.last_changes.LastChange.{LastChange}
use Rattle.compaction.proofs.Acting.{position-next}

module _ (c : Command) where
  -- what is found at an index: the first one there, or a later one
  pub data Found (x : LastChange) (xs : List LastChange) (i : ℕ) : Type 0 where
    Here : is_of c x ≡ true → i ≡ 0 → Found x xs i
    Later : (j : ℕ) → is_of c x ≡ false → position (is_of c) xs ≡ Some j → i ≡ suc j → Found x xs i

  some-is : (i j : ℕ) → Some i ≡ Some j → i ≡ j
  some-is i j h = cc

  found : (x : LastChange) (xs : List LastChange) (i : ℕ) → position (is_of c) (x ∷ xs) ≡ Some i → Found x xs i
  found x xs i h = by (is_of c x) refl (sym (position-next (is_of c) x xs) ∙ h)
    where
      later : is_of c x ≡ false → (o : Option ℕ) → position (is_of c) xs ≡ o → option_map suc o ≡ Some i → Found x xs i
      later e None f k = absurd (cc)
      later e (Some j) f k = Later j e f (sym (some-is (suc j) i k))

      by : (t : Bool) → is_of c x ≡ t → (if is_of c x then Some 0 else option_map suc (position (is_of c) xs)) ≡ Some i → Found x xs i
      by true e k = Here e (sym (some-is 0 i (rw e at k)))
      by false e k = later e (position (is_of c) xs) refl (rw e at k)

  pub find_noted : (last : List LastChange) (i : ℕ) (d : LastChange) → position (is_of c) last ≡ Some i → (slice_index_or last i d).count ≡ last_noted c last
  find_noted [] i d h = absurd (cc)
  find_noted (x ∷ xs) i d h = by (found x xs i h) (find_noted xs)
    where
      by : Found x xs i → ((j : ℕ) (d : LastChange) → position (is_of c) xs ≡ Some j → (slice_index_or xs j d).count ≡ last_noted c xs) → (slice_index_or (x ∷ xs) i d).count ≡ last_noted c (x ∷ xs)
      by (Here e is) others = rw (is, e) refl
      by (Later j e f is) others = rw (is, e) (others j d f)

  pub set_found : (n : ℕ) (last : List LastChange) (i : ℕ) (d : LastChange) → position (is_of c) last ≡ Some i → slice_set last i (record (slice_index_or last i d) { count = n }) ≡ changed c n last
  set_found n [] i d h = absurd (cc)
  set_found n (x ∷ xs) i d h = by (found x xs i h) (set_found n xs)
    where
      by : Found x xs i → ((j : ℕ) (d : LastChange) → position (is_of c) xs ≡ Some j → slice_set xs j (record (slice_index_or xs j d) { count = n }) ≡ changed c n xs)
          → slice_set (x ∷ xs) i (record (slice_index_or (x ∷ xs) i d) { count = n }) ≡ changed c n (x ∷ xs)
      by (Here e is) others = rw (is, e) refl
      by (Later j e f is) others = rw (is, e) (ap (λ (l : List LastChange). x ∷ l) (others j d f))

  -- where none is found there, none is found later
  none-here : (x : LastChange) (xs : List LastChange) → position (is_of c) (x ∷ xs) ≡ None → (is_of c x ≡ false) × (position (is_of c) xs ≡ None)
  none-here x xs h = by (is_of c x) refl (sym (position-next (is_of c) x xs) ∙ h)
    where
      later : is_of c x ≡ false → (o : Option ℕ) → position (is_of c) xs ≡ o → option_map suc o ≡ None → (is_of c x ≡ false) × (position (is_of c) xs ≡ None)
      later e None f k = (e, f)
      later e (Some j) f k = absurd (cc)

      by : (t : Bool) → is_of c x ≡ t → (if is_of c x then Some 0 else option_map suc (position (is_of c) xs)) ≡ None → (is_of c x ≡ false) × (position (is_of c) xs ≡ None)
      by true e k = absurd (cc (rw e at k))
      by false e k = later e (position (is_of c) xs) refl (rw e at k)

  pub find_none : (last : List LastChange) → position (is_of c) last ≡ None → last_noted c last ≡ 0
  find_none [] h = refl
  find_none (x ∷ xs) h = let none = none-here x xs h in rw none.0 (find_none xs none.1)

  pub set_none : (n : ℕ) (last : List LastChange) → position (is_of c) last ≡ None → last ++ record { name = name_of c; is_switch = is_switch c; count = n } ∷ [] ≡ changed c n last
  set_none n [] h = refl
  set_none n (x ∷ xs) h = let none = none-here x xs h in rw none.0 (ap (λ (l : List LastChange). x ∷ l) (set_none n xs none.1))

  -- where none is found, the command is added
  pub set_new : (n : ℕ) (last new : List LastChange) (name : List ℕ) (s : Bool) → new ≡ last ++ record { name = name; is_switch = s; count = n } ∷ [] → name ≡ name_of c → s ≡ is_switch c
      → position (is_of c) last ≡ None → new ≡ changed c n last
  set_new n last new name s added named switched none =
      added
      ∙ ap (λ (x : List ℕ). last ++ record { name = x; is_switch = s; count = n } ∷ []) named
      ∙ ap (λ (t : Bool). last ++ record { name = name_of c; is_switch = t; count = n } ∷ []) switched
      ∙ set_none n last none
