-- Prefixes of which each begins with the one before.
use Rattle.std.specs.Prelude.{MatchBool, MatchResult, OnOk}
use Rattle.std.proofs.Common.{arith, length, drop, drop_at, ◌≤◌, ◌≡◌, ◌∙◌, ℕ, Bool, true, false, Result, Ok, Err, List, [], ◌∷◌, ◌++◌, fold, refl, sym, ap, subst, append_assoc}
use Rattle.std.proofs.lemmas.List.{append-nil, drop_all, drop-append-le, length-append, length-drop}
use mathlib.Core.List.{IsPrefix}
use Rattle.batches.specs.Batch.{State}
use Rattle.mapshare.specs.declared.replica.Replica.{Replica}
use Rattle.mapshare.specs.declared.replica.ReplicaValue.{ReplicaValue}
use Rattle.mapshare.specs.Replica.{applied, IsMade, shape_of}
use Rattle.mapshare.specs.Queue.{IsChain}

-- the first prefix begins the last
pub chain_begins : {S : Type 0} (opening : State) (first : List (List ℕ)) (replicas : List (Replica S)) (last : List (List ℕ)) → IsChain opening first replicas last → IsPrefix first last
chain_begins opening first [] last c = ([], append-nil first ∙ c)
chain_begins opening first (e ∷ replicas) last c =
    let rest = chain_begins opening e.prefix replicas last c.2 in
    (c.0.0 ++ rest.0, sym (append_assoc first c.0.0 rest.0) ∙ ap (λ l. l ++ rest.0) c.0.1 ∙ rest.1)

-- a list is each of its prefixes and the rest after it
prefix_rest : (first last : List (List ℕ)) → IsPrefix first last → last ≡ first ++ drop (length first) last
prefix_rest first last p = sym p.1 ∙ ap (λ l. first ++ l) (sym (drop_at first p.0 (length first) refl) ∙ ap (drop (length first)) p.1)

-- the last prefix is the first and the batches after it
pub chain_all : {S : Type 0} (opening : State) (first : List (List ℕ)) (replicas : List (Replica S)) (last : List (List ℕ)) → IsChain opening first replicas last →
    last ≡ first ++ drop (length first) last
chain_all opening first replicas last c = prefix_rest first last (chain_begins opening first replicas last c)

-- and is no shorter
chain_grows : {S : Type 0} (opening : State) (first : List (List ℕ)) (replicas : List (Replica S)) (last : List (List ℕ)) → IsChain opening first replicas last → length first ≤ length last
chain_grows opening first replicas last c =
    let begins = chain_begins opening first replicas last c in
    omega (arith, ap length begins.1, length-append first begins.0)

chain_snoc : {S : Type 0} (opening : State) (first : List (List ℕ)) (replicas : List (Replica S)) (last : List (List ℕ)) (e : Replica S) → IsChain opening first replicas last →
    IsPrefix last e.prefix → IsMade opening (shape_of e) → IsChain opening first (replicas ++ e ∷ []) e.prefix
chain_snoc opening first [] last e c next made = (rw c next, made, refl)
chain_snoc opening first (x ∷ replicas) last e c next made = (c.0, c.1, chain_snoc opening x.prefix replicas last e c.2 next made)

-- a chain goes on by one replica, where the queue does
pub chain_push : {S : Type 0} (opening : State) (first : List (List ℕ)) (xs ys zs : List (Replica S)) (last next : List (List ℕ)) (e : Replica S) → IsChain opening first (xs ++ ys) last →
    zs ≡ ys ++ e ∷ [] → IsPrefix last e.prefix → IsMade opening (shape_of e) → e.prefix ≡ next → IsChain opening first (xs ++ zs) next
chain_push opening first xs ys zs last next e c same is made prefix =
    subst (λ z. IsChain opening first (xs ++ z) next) (sym same) (subst (λ l. IsChain opening first l next) (append_assoc xs ys (e ∷ [])) (subst (IsChain opening first ((xs ++ ys) ++ e ∷ [])) prefix (chain_snoc opening first (xs ++ ys) last e c is made)))

-- the state shown after all replicas has the last prefix
pub chain_prefix : {S : Type 0} (opening : State) (s : ReplicaValue) (replicas : List (Replica S)) (last : List (List ℕ)) → IsChain opening s.batches replicas last → (fold applied s replicas).batches ≡ last
chain_prefix opening s [] last c = c
chain_prefix opening s (e ∷ replicas) last c = chain_prefix opening (applied s e) replicas last c.2

-- that state is made by all of its batches
pub chain_made : {S : Type 0} (opening : State) (s : ReplicaValue) (replicas : List (Replica S)) (last : List (List ℕ)) → IsChain opening s.batches replicas last → IsMade opening s → IsMade opening (fold applied s replicas)
chain_made opening s [] last c m = m
chain_made opening s (e ∷ replicas) last c m = chain_made opening (applied s e) replicas last c.2 c.1

-- where nothing is pending, the last prefix is the first
pub idle_last : {S : Type 0} (opening : State) (first : List (List ℕ)) (replicas : List (Replica S)) (last : List (List ℕ)) → IsChain opening first replicas last →
    drop (length first) last ≡ [] → last ≡ first
idle_last opening first replicas last c e = chain_all opening first replicas last c ∙ (ap (λ z. first ++ z) e ∙ append-nil first)

-- more batches after the last prefix are pending, too
pub pending_more : {S : Type 0} (opening : State) (first : List (List ℕ)) (replicas : List (Replica S)) (last more : List (List ℕ)) → IsChain opening first replicas last →
    drop (length first) (last ++ more) ≡ drop (length first) last ++ more
pending_more opening first replicas last more c = drop-append-le (length first) last more (chain_grows opening first replicas last c)

pub ok_from : {T E : Type 0} (r : Result T E) (P : T → Type 0) (Q : E → Type 0) (Z : Type 0) → MatchResult r P Q → ((t : T) → P t → Z) → OnOk r Z
ok_from (Ok t) P Q Z m f = f t m
ok_from (Err e) P Q Z m f = tt

pub on_true : (b : Bool) (P Q : Type 0) → b ≡ true → MatchBool b P Q → P
on_true true P Q e m = m
on_true false P Q e m = absurd (cc e)

-- nothing is pending where the last prefix is no longer than the first
pub idle_when : {S : Type 0} (opening : State) (first : List (List ℕ)) (replicas : List (Replica S)) (last : List (List ℕ)) → IsChain opening first replicas last →
    (length last ≡ length first → drop (length first) last ≡ []) × (drop (length first) last ≡ [] → length last ≡ length first)
idle_when opening first replicas last c =
    let goes = chain_grows opening first replicas last c in (
      (λ e. drop_all (length first) last (omega (arith, e))),
      (λ e. omega (arith, goes, ap length e, length-drop (length first) last)),
    )
