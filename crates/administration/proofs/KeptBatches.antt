-- The batches of a client that are kept.
use Rattle.std.proofs.Common.{◌≡◌, ℕ, List, [], ◌++◌, sym, ◌∙◌, ap, subst, append_assoc, append-nil}
use Rattle.std.specs.Prelude.{IsSome}
use Rattle.batches.specs.Batch.{State, accepted as batch_accepted}
use Rattle.sharing.specs.Sharing.{after}
use Rattle.keepers.specs.Crashes.{LeavesOnly}
use Rattle.keepers.specs.declared.keeps.Keeps.{Ghosts as Keeps}
use Rattle.keepers.proofs.Moments.{follows, started, weaker}
use Rattle.mapshare.specs.Admin.{Batches, IsAccepted, all_of, with_batches}
use Rattle.mapshare.specs.Kept.{StandsWithAccepted}
use Rattle.administration.specs.Keeping.{IsKeptSince, NoneLost, StandsForAccepted}
use Rattle.administration.proofs.Groups.{all-with}

module _ {K : Type 0} (keeps : K → List (List ℕ) → Type 0) where
  -- nothing was accepted
  pub same_kept : (old new : Batches) (kept : List (List ℕ)) (keeper : K) → all_of new ≡ all_of old → keeps keeper kept → IsKeptSince keeps old kept new keeper
  same_kept old new kept keeper same is = ([], same ∙ sym (append-nil (all_of old)), subst (keeps keeper) (sym (append-nil kept)) is)

  -- some batches were accepted, and then more
  pub more_kept : (old between new : Batches) (kept : List (List ℕ)) (middle last : K) → IsKeptSince keeps old kept between middle
      → ((now : List (List ℕ)) → keeps middle now → IsKeptSince keeps between now new last) → IsKeptSince keeps old kept new last
  more_kept old between new kept middle last (first, is, has) next =
      let then = next (kept ++ first) has in (
        first ++ then.0,
        then.1 ∙ ap (λ (l : List (List ℕ)). l ++ then.0) is ∙ append_assoc (all_of old) first then.0,
        subst (keeps last) (append_assoc kept first then.0) then.2,
      )

  -- nothing more was accepted
  pub as_kept : (old between new : Batches) (kept : List (List ℕ)) (keeper : K) → all_of new ≡ all_of between → IsKeptSince keeps old kept between keeper → IsKeptSince keeps old kept new keeper
  as_kept old between new kept keeper same (more, is, has) = (more, same ∙ is, has)

-- no batch is lost where nothing is done
pub none_lost : {K : Type 0} (known : Keeps K) (opening : State)
    → (known.reliable → (keeper : K) (batches : List (List ℕ)) (file : List ℕ) → known.keeps keeper batches → known.left_since keeper (known.moment keeper) file → known.stands keeper file batches)
    → (admin : Batches) (keeper : K) → NoneLost known opening admin keeper admin keeper
none_lost known opening stays admin keeper = record {
  accepted = λ is. is;
  same_file = λ file batches stood. stood;
  any_moment = λ reliable accepted kept has.
      started known.moment known.left_since keeper (StandsForAccepted opening admin known.stands keeper kept)
      (λ file left. (
        [],
        subst (λ (l : List (List ℕ)). IsSome (after batch_accepted opening l)) (sym (all-with admin [] ∙ append-nil (all_of admin))) accepted,
        subst (known.stands keeper file) (sym (append-nil kept)) (stays reliable keeper kept file has left),
      ));
}

-- nor where more is done in which none is
pub none_lost_more : {K : Type 0} (known : Keeps K) (opening : State) (old between new : Batches) (first middle last : K)
    → NoneLost known opening old first between middle
    → ((kept : List (List ℕ)) → known.keeps first kept → IsKeptSince known.keeps old kept between middle)
    → NoneLost known opening between middle new last → NoneLost known opening old first new last
none_lost_more known opening old between new first middle last one keeps two = record {
  accepted = λ is. two.accepted (one.accepted is);
  same_file = λ file batches stood. one.same_file file batches (two.same_file file batches stood);
  any_moment = λ reliable accepted kept has.
      let (more, is, now) = keeps kept has in
      follows known.moment known.left_since first middle last
      (StandsForAccepted opening old known.stands first kept) (StandsForAccepted opening between known.stands middle (kept ++ more)) (StandsForAccepted opening old known.stands first kept)
      (one.any_moment reliable accepted kept has) (two.any_moment reliable (one.accepted accepted) (kept ++ more) now)
      (λ file stood. stood)
      (λ file stood. (
        more ++ stood.0,
        subst (λ (l : List (List ℕ)). IsSome (after batch_accepted opening l))
            (all-with between stood.0 ∙ ap (λ (l : List (List ℕ)). l ++ stood.0) is ∙ append_assoc (all_of old) more stood.0 ∙ sym (all-with old (more ++ stood.0)))
            stood.1,
        one.same_file file (kept ++ (more ++ stood.0)) (subst (known.stands middle file) (append_assoc kept more stood.0) stood.2),
      ));
}

-- nor where the same batches are accepted after it
pub none_lost_as : {K : Type 0} (known : Keeps K) (opening : State) (old between new : Batches) (first last : K) → all_of new ≡ all_of between
    → NoneLost known opening old first between last → NoneLost known opening old first new last
none_lost_as known opening old between new first last same lost = record {
  accepted = λ is. subst (λ (l : List (List ℕ)). IsSome (after batch_accepted opening l)) (sym same) (lost.accepted is);
  same_file = lost.same_file;
  any_moment = lost.any_moment;
}

-- nor where the keeper keeps the first of some batches, or fails
pub none_lost_kept : {K : Type 0} (known : Keeps K) (opening : State) (old new : Batches) (first last : K) (more : List (List ℕ)) → (IsAccepted opening old → IsAccepted opening new)
    → ((file : List ℕ) (batches : List (List ℕ)) → known.stands last file batches → known.stands first file batches)
    → (known.reliable → (kept : List (List ℕ)) → known.keeps first kept
    → LeavesOnly known.moment known.left_since first last (StandsWithAccepted opening old known.stands first kept more))
    → NoneLost known opening old first new last
none_lost_kept known opening old new first last more accepted same leaves = record {
  accepted = accepted;
  same_file = same;
  any_moment = λ reliable is kept has.
      weaker known.moment known.left_since first last (StandsWithAccepted opening old known.stands first kept more) (StandsForAccepted opening old known.stands first kept)
      (leaves reliable kept has) (λ file stood. (stood.0, stood.2, stood.3));
}
