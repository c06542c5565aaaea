-- The bytes that a crash leaves of a tape.
use Rattle.std.proofs.Common.{◌≡◌, ◌⊎◌, inl, inr, ⊎_elim, ℕ, zero, suc, ◌+◌, ◌-◌, ◌<◌, ◌≤◌, min, max, List, [], ◌∷◌, ◌++◌, length, take, drop, refl, sym, ◌∙◌, ap, subst, arith, length-append, length-take, take-append-drop}
use Rattle.std.proofs.lemmas.List.{append-nil, take_all, take-append-le}
use Rattle.std.proofs.lemmas.Bool.{cases_lt}
use Rattle.std.proofs.Math.Seq.{take-append-add}
use mathlib.Core.List.{IsPrefix}
use Rattle.journalfile.specs.Log.{Torn, Cut, Follows, NoOther, Elapses}
use Rattle.test_logs.specs.Tape.{IsLeft, WasOnce}
use Rattle.test_logs.specs.declared.recording.Moment.{Moment}

prefix_take : (m n : ℕ) (xs : List ℕ) → m ≤ n → IsPrefix (take m xs) (take n xs)
prefix_take zero n xs le = (take n xs, refl)
prefix_take (suc m) zero xs le = absurd (omega arith)
prefix_take (suc m) (suc n) [] le = ([], refl)
prefix_take (suc m) (suc n) (x ∷ xs) le = let rest = prefix_take m n xs (omega arith) in (rest.0, ap (λ (l : List ℕ). x ∷ l) rest.1)

prefix_all : (n : ℕ) (xs : List ℕ) → IsPrefix (take n xs) xs
prefix_all n xs = (drop n xs, take-append-drop n xs)

take_both : (n m : ℕ) (xs : List ℕ) → (k : ℕ) × (k ≤ n) × (k ≤ m) × ((k ≡ n) ⊎ (k ≡ m)) × (take n (take m xs) ≡ take k xs)
take_both zero m xs = (zero, omega arith, omega arith, inl refl, refl)
take_both (suc n) zero xs = (zero, omega arith, omega arith, inr refl, refl)
take_both (suc n) (suc m) [] = first (cases_lt n m)
  where
    first : (n < m) ⊎ (m ≤ n) → (k : ℕ) × (k ≤ suc n) × (k ≤ suc m) × ((k ≡ suc n) ⊎ (k ≡ suc m)) × (take (suc n) (take (suc m) []) ≡ take {A = ℕ} k [])
    first (inl lt) = (suc n, omega arith, omega arith, inl refl, refl)
    first (inr le) = (suc m, omega arith, omega arith, inr refl, refl)
take_both (suc n) (suc m) (x ∷ xs) =
    let rest = take_both n m xs in
    (suc rest.0, omega (arith, rest.1), omega (arith, rest.2), ⊎_elim (λ e. inl (ap suc e)) (λ e. inr (ap suc e)) rest.3, ap (λ (l : List ℕ). x ∷ l) rest.4)

-- nothing is done
pub torn_stays : (bytes : List ℕ) (P : List ℕ → Type 0) → Follows (Torn (λ left. ⊥) bytes) P P
torn_stays bytes P c now = (c, now, ([], sym (append-nil c), inl (bytes, refl)))

pub cut_stays : (end : ℕ) (P : List ℕ → Type 0) → Follows (Cut end) P P
cut_stays end P c now = (c, now, record { no_shorter = omega arith; front = ([], append-nil c) })

-- some of the bytes are added
pub torn_adds : (old new bytes : List ℕ) (synced count : ℕ) → new ≡ old ++ take count bytes → Follows (Torn (λ left. ⊥) bytes) (IsLeft old synced) (IsLeft new synced)
torn_adds old new bytes synced count is c (n, le, left) = by (cases_lt n (length old))
  where
    first : c ≡ take n (old ++ take count bytes)
    first = left ∙ ap (λ (l : List ℕ). take n l) is

    by : (n < length old) ⊎ (length old ≤ n) → (d : List ℕ) × IsLeft old synced d × Torn (λ l. ⊥) bytes d c
    by (inl lt) = let short : n ≤ length old = omega arith in (take n old, (n, le, refl), ([], first ∙ take-append-le n old (take count bytes) short ∙ sym (append-nil (take n old)), inl (bytes, refl)))
    by (inr long) =
        let k = n - length old in
        let both = take_both k count bytes in
        let added : take n (old ++ take count bytes) ≡ old ++ take k (take count bytes) =
        ap (λ (m : ℕ). take m (old ++ take count bytes)) (let split : n ≡ length old + k = omega arith in split) ∙ take-append-add old (take count bytes) k in
        (old, (n, le, sym (take_all n old long)), (take both.0 bytes, first ∙ added ∙ ap (λ (l : List ℕ). old ++ l) both.4, inl (prefix_all both.0 bytes)))

-- some are cut off
pub cut_shortens : (old new : List ℕ) (end synced new_synced : ℕ) → end ≤ length old → new ≡ take end old → new_synced ≡ min synced end → Follows (Cut end) (IsLeft old synced) (IsLeft new new_synced)
cut_shortens old new end synced new_synced inside is same c (n, le, left) =
    let both = take_both n end old in
    let m = max n synced in
    let here : c ≡ take both.0 old = left ∙ ap (λ (l : List ℕ). take n l) is ∙ both.4 in (
      take m old,
      (m, omega arith, refl),
      record {
        no_shorter = ⊎_elim (λ (e : both.0 ≡ n). omega (arith, ap length here, length-take both.0 old, length-take m old, both.1, both.2, le, same)) (λ (e : both.0 ≡ end). omega (arith, ap length here, length-take both.0 old, length-take m old, both.1, both.2, le, same)) both.3;
        front = subst (λ (l : List ℕ). IsPrefix l (take m old)) (sym here) (prefix_take both.0 m old (omega (arith, both.1)));
      },
    )

-- all of them are kept
pub sync_keeps : (bytes : List ℕ) (synced : ℕ) → NoOther (IsLeft bytes synced) (IsLeft bytes (length bytes))
sync_keeps bytes synced c (n, le, left) =
    (max n synced, omega arith, left ∙ take_all n bytes le ∙ sym (take_all (max n synced) bytes (omega arith)))

-- time goes on
adds : (past : List Moment) (instant : Moment) (c : List ℕ) → WasOnce (past ++ instant ∷ []) c → WasOnce past c ⊎ IsLeft instant.bytes.items instant.synced c
adds [] instant c (inl here) = inr here
adds [] instant c (inr none) = absurd none
adds (p ∷ past) instant c (inl here) = inl (inl here)
adds (p ∷ past) instant c (inr there) = ⊎_elim (λ had. inl (inr had)) (λ new. inr new) (adds past instant c there)

newest : (past : List Moment) (instant : Moment) (c : List ℕ) → IsLeft instant.bytes.items instant.synced c → WasOnce (past ++ instant ∷ []) c
newest [] instant c is = inl is
newest (p ∷ past) instant c is = inr (newest past instant c is)

stays_past : (past : List Moment) (instant : Moment) (c : List ℕ) → WasOnce past c → WasOnce (past ++ instant ∷ []) c
stays_past [] instant c had = absurd had
stays_past (p ∷ past) instant c (inl here) = inl here
stays_past (p ∷ past) instant c (inr there) = inr (stays_past past instant c there)

drop_push : (t : ℕ) (past : List Moment) (instant : Moment) → t ≤ length past → drop t (past ++ instant ∷ []) ≡ drop t past ++ instant ∷ []
drop_push zero past instant le = refl
drop_push (suc t) [] instant le = absurd (omega arith)
drop_push (suc t) (p ∷ past) instant le = drop_push t past instant (omega arith)

abbrev pub Since : List Moment → List ℕ → ℕ → ℕ → List ℕ → Type 0
Since past bytes synced t c = IsLeft bytes synced c ⊎ WasOnce (drop t past) c

elapses_push : (past : List Moment) (instant : Moment) (new : List ℕ) (synced : ℕ) → Elapses (length past) (length (past ++ instant ∷ [])) (Since past instant.bytes.items instant.synced) (Since (past ++ instant ∷ []) new synced) (IsLeft new synced)
elapses_push past instant new synced = record {
  later = omega (arith, length-append past (instant ∷ []));
  nothing_else = λ t c le left. ⊎_elim (λ now. inr now) (λ had. inl (was t c (adds (drop t past) instant c (subst (λ (l : List Moment). WasOnce l c) (drop_push t past instant le) had)))) left;
  keeps = λ t c le left. inr (subst (λ (l : List Moment). WasOnce l c) (sym (drop_push t past instant le)) (⊎_elim (newest (drop t past) instant c) (stays_past (drop t past) instant c) left));
}
  where
    was : (t : ℕ) (c : List ℕ) → WasOnce (drop t past) c ⊎ IsLeft instant.bytes.items instant.synced c → Since past instant.bytes.items instant.synced t c
    was t c (inl had) = inr had
    was t c (inr new) = inl new

pub elapses : (past later : List Moment) (instant : Moment) (bytes : List ℕ) (kept : ℕ) (new : List ℕ) (synced : ℕ) → instant.bytes.items ≡ bytes → instant.synced ≡ kept → later ≡ past ++ instant ∷ []
    → Elapses (length past) (length later) (Since past bytes kept) (Since later new synced) (IsLeft new synced)
elapses past later instant bytes kept new synced same_bytes same_kept is =
    subst (λ (l : List Moment). Elapses (length past) (length l) (Since past bytes kept) (Since l new synced) (IsLeft new synced)) (sym is)
    (subst (λ (b : List ℕ). Elapses (length past) (length (past ++ instant ∷ [])) (Since past b kept) (Since (past ++ instant ∷ []) new synced) (IsLeft new synced)) same_bytes
    (subst (λ (k : ℕ). Elapses (length past) (length (past ++ instant ∷ [])) (Since past instant.bytes.items k) (Since (past ++ instant ∷ []) new synced) (IsLeft new synced)) same_kept
    (elapses_push past instant new synced)))
