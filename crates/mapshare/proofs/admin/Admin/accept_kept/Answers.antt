use Rattle.std.proofs.Common.{◌≡◌, ◌<◌, ◌≤◌, ℕ, List, [], ◌∷◌, ◌++◌, Option, None, Some, MatchOption, length, take, drop, refl, sym, ◌∙◌, ap, subst, arith}
use mathlib.Core.List.{IsPrefix}
use Rattle.batches.specs.Batch.{State, accepted}
use Rattle.batches.specs.declared.fault.BatchError.TheVariants.{NoMemory}
use Rattle.journal.specs.Texts.{texts_of}
use Rattle.journal.proofs.Growing.{length-texts}
use Rattle.sharing.specs.Sharing.{after}
use Rattle.mapshare.specs.Admin.{Batches, HasAccepted, all_of, with_batches}
use Rattle.mapshare.specs.Checking.{HasChecked, last_of}
use Rattle.mapshare.specs.declared.checking.Accepted.{Accepted}
use Rattle.mapshare.specs.declared.replica.Replica.{Replica}
use Rattle.mapshare.specs.Queue.{IsChain}
use Rattle.keepers.proofs.Moments.{started, weaker}
use Rattle.mapshare.proofs.Accepting.{after_more, all_accepted, crash_leaves, has_accepted, none_more, out_of_memory, stays_first, texts_first}
use Rattle.mapshare.proofs.Chains.{chain_all, chain_push, pending_more}
use Rattle.mapshare.proofs.admin.Admin.accept_kept.Goals as goal

-- the state that the next batch is checked in is the one after all batches
before : {S : Type 0} (opening checked : State) (published last : List (List ℕ)) (waiting : List (Replica S)) (old : Batches) → IsChain opening published waiting last → after accepted opening last ≡ Some checked
    → record { published = published; pending = drop (length published) last } ≡ old → after accepted opening (all_of old) ≡ Some checked
before opening checked published last waiting old chain is view =
    subst (λ (b : Batches). after accepted opening (all_of b) ≡ Some checked) view (ap (after accepted opening) (sym (chain_all opening published waiting last chain)) ∙ is)

-- the last machine is there where some are accepted
at_some : (first last : State) (o : Option State) (batches : List (List ℕ)) (found : Accepted) → o ≡ Some last → HasChecked first batches found (last_of first o) → HasChecked first batches found last
at_some first last o batches found is checked = subst (HasChecked first batches found) (ap (last_of first) is) checked

some_count : {X : Type 0} (o : Option X) (last : X) (count : ℕ) → o ≡ Some last → MatchOption o (count ≡ 0) (λ _. 1 ≤ count) → 1 ≤ count
some_count None last count is some = absurd (cc is)
some_count (Some x) last count is some = some

none_count : {X : Type 0} (o : Option X) (count : ℕ) → o ≡ None → MatchOption o (count ≡ 0) (λ _. 1 ≤ count) → count ≡ 0
none_count None count is none = none
none_count (Some x) count is none = absurd (cc is)

pub returns-in_default-clause-accepted : goal.returns-in_default-clause-accepted
returns-in_default-clause-accepted g c =
    let a = c.self.inside in
    let opening = g.S.Sharing.opening in
    let texts = texts_of c.args.batches.now in
    let found = c.check-last.result.0 in
    let is = before opening a.checked a.published a.last (drop a.writer.behind a.writer.log.items ++ a.queue.items) c.args.self.now c.self.invariant.1 c.self.invariant.2 c.self.view_is in
    let none = none_count c.check-last.result.1 found.count c.in_default.is c.check-last.ensures.some in
    has_accepted opening a.checked (last_of a.checked c.check-last.result.1) c.args.self.now _ texts found is c.check-last.ensures.checked (c.self.view_is ∙ sym (none_more c.args.self.now found.count texts none))

pub returns-in_default-clause-any_moment : goal.returns-in_default-clause-any_moment
returns-in_default-clause-any_moment g c reliable kept has =
    let a = c.self.inside in
    let opening = g.S.Sharing.opening in
    let found = c.check-last.result.0 in
    let is = before opening a.checked a.published a.last (drop a.writer.behind a.writer.log.items ++ a.queue.items) c.args.self.now c.self.invariant.1 c.self.invariant.2 c.self.view_is in
    started g.K.Keeps.moment g.K.Keeps.left_since c.args.keeper.now _
    (λ file left. crash_leaves opening a.checked (last_of a.checked c.check-last.result.1) c.args.self.now c.args.batches.now found kept (g.K.Keeps.stands c.args.keeper.now file) is c.check-last.ensures.checked
    (stays_first kept (texts_of (take found.count c.args.batches.now)) (g.K.Keeps.stands c.args.keeper.now file) (g.met.K.Keeps.stays reliable c.args.keeper.now kept file has left)))

pub returns-in-Err-NoMemory-clause-accepted : goal.returns-in-Err-NoMemory-clause-accepted
returns-in-Err-NoMemory-clause-accepted g c =
    let a = c.self.inside in
    let opening = g.S.Sharing.opening in
    let texts = texts_of c.args.batches.now in
    let is = before opening a.checked a.published a.last (drop a.writer.behind a.writer.log.items ++ a.queue.items) c.args.self.now c.self.invariant.1 c.self.invariant.2 c.self.view_is in
    let some : 1 ≤ c.check-last.result.0.count = some_count c.check-last.result.1 c.in-Some.checked c.check-last.result.0.count c.in-Some.is c.check-last.ensures.some in
    let nonempty : 0 < length texts = omega (arith, some, c.check-last.ensures.checked.within) in
    let found : HasAccepted opening c.args.self.now texts (record { count = 0; refused = Some NoMemory }) c.args.self.now =
    has_accepted opening a.checked a.checked c.args.self.now c.args.self.now texts (record { count = 0; refused = Some NoMemory }) is (out_of_memory a.checked texts nonempty) (sym (none_more c.args.self.now 0 texts refl)) in
    rw (c.out_of_memory.ensures, c.self.view_is) found

pub returns-in-Err-NoMemory-clause-any_moment : goal.returns-in-Err-NoMemory-clause-any_moment
returns-in-Err-NoMemory-clause-any_moment g c reliable kept has =
    let a = c.self.inside in
    let opening = g.S.Sharing.opening in
    let found = c.check-last.result.0 in
    let is = before opening a.checked a.published a.last (drop a.writer.behind a.writer.log.items ++ a.queue.items) c.args.self.now c.self.invariant.1 c.self.invariant.2 c.self.view_is in
    weaker g.K.Keeps.moment g.K.Keeps.left_since c.args.keeper.now c.keep_and_copy.new.keeper _ _ (c.in-Err-NoMemory.ensures.any_moment reliable kept has)
    (λ file. crash_leaves opening a.checked (last_of a.checked c.check-last.result.1) c.args.self.now c.args.batches.now found kept (g.K.Keeps.stands c.args.keeper.now file) is c.check-last.ensures.checked)

pub returns-in-Err-Failed-clause-failed : goal.returns-in-Err-Failed-clause-failed
returns-in-Err-Failed-clause-failed g c =
    let a = c.self.inside in
    let opening = g.S.Sharing.opening in
    let texts = texts_of c.args.batches.now in
    let found = c.check-last.result.0 in
    let is = before opening a.checked a.published a.last (drop a.writer.behind a.writer.log.items ++ a.queue.items) c.args.self.now c.self.invariant.1 c.self.invariant.2 c.self.view_is in (
      found.count,
      some_count c.check-last.result.1 c.in-Some.checked found.count c.in-Some.is c.check-last.ensures.some,
      omega (arith, c.check-last.ensures.checked.within, length-texts c.args.batches.now),
      all_accepted opening a.checked (last_of a.checked c.check-last.result.1) c.args.self.now texts found is c.check-last.ensures.checked,
      c.self.view_is,
    )

pub returns-in-Err-Failed-clause-any_moment : goal.returns-in-Err-Failed-clause-any_moment
returns-in-Err-Failed-clause-any_moment g c reliable kept has =
    let a = c.self.inside in
    let opening = g.S.Sharing.opening in
    let found = c.check-last.result.0 in
    let is = before opening a.checked a.published a.last (drop a.writer.behind a.writer.log.items ++ a.queue.items) c.args.self.now c.self.invariant.1 c.self.invariant.2 c.self.view_is in
    weaker g.K.Keeps.moment g.K.Keeps.left_since c.args.keeper.now c.keep_and_copy.new.keeper _ _ (c.in-Err-Failed.ensures.any_moment reliable kept has)
    (λ file. crash_leaves opening a.checked (last_of a.checked c.check-last.result.1) c.args.self.now c.args.batches.now found kept (g.K.Keeps.stands c.args.keeper.now file) is c.check-last.ensures.checked)

pub returns-then-not-add_all-clause-failed : goal.returns-then-not-add_all-clause-failed
returns-then-not-add_all-clause-failed g c =
    let a = c.self.inside in
    let opening = g.S.Sharing.opening in
    let texts = texts_of c.args.batches.now in
    let found = c.check-last.result.0 in
    let is = before opening a.checked a.published a.last (drop a.writer.behind a.writer.log.items ++ a.queue.items) c.args.self.now c.self.invariant.1 c.self.invariant.2 c.self.view_is in (
      found.count,
      some_count c.check-last.result.1 c.in-Some.checked found.count c.in-Some.is c.check-last.ensures.some,
      omega (arith, c.check-last.ensures.checked.within, length-texts c.args.batches.now),
      all_accepted opening a.checked (last_of a.checked c.check-last.result.1) c.args.self.now texts found is c.check-last.ensures.checked,
      c.self.view_is,
    )

pub returns-then-not-add_all-clause-any_moment : goal.returns-then-not-add_all-clause-any_moment
returns-then-not-add_all-clause-any_moment g c reliable kept has =
    let a = c.self.inside in
    let opening = g.S.Sharing.opening in
    let found = c.check-last.result.0 in
    let is = before opening a.checked a.published a.last (drop a.writer.behind a.writer.log.items ++ a.queue.items) c.args.self.now c.self.invariant.1 c.self.invariant.2 c.self.view_is in
    weaker g.K.Keeps.moment g.K.Keeps.left_since c.args.keeper.now c.keep_and_copy.new.keeper _ _ (c.in-Ok.ensures.any_moment reliable kept has)
    (λ file. crash_leaves opening a.checked (last_of a.checked c.check-last.result.1) c.args.self.now c.args.batches.now found kept (g.K.Keeps.stands c.args.keeper.now file) is c.check-last.ensures.checked)

pub invariant_of-self-2 : goal.invariant_of-self-2
invariant_of-self-2 g c =
    let a = c.self.inside in
    let opening = g.S.Sharing.opening in
    let found = c.check-last.result.0 in
    let more = take found.count (texts_of c.args.batches.now) in
    let last = c.add_all.new.prefix in
    let replica : Replica g.row.S.Denot = record { machine = c.in-Ok.machine; prefix = c.copy.result } in
    let checked = at_some a.checked c.in-Some.checked c.check-last.result.1 (texts_of c.args.batches.now) found c.in-Some.is c.check-last.ensures.checked in
    let added : last ≡ a.last ++ more = c.add_all.ensures c.if-not-add_all.false ∙ ap (λ z. z ++ texts_of (take found.count c.args.batches.now)) c.copy-prefix.ensures ∙ ap (λ z. a.last ++ z) (texts_first found.count c.args.batches.now) in
    let all : after accepted opening last ≡ Some c.in-Some.checked = ap (after accepted opening) added ∙ after_more opening a.checked a.last more c.self.invariant.2 ∙ checked.leads in
    let made = ap (after accepted opening) c.copy.ensures ∙ all ∙ ap Some (sym c.in-Ok.ensures.copied) in
    let begins : IsPrefix a.last c.copy.result = (more, sym (c.copy.ensures ∙ added)) in (
      c.self.invariant.0,
      chain_push opening a.published (drop a.writer.behind a.writer.log.items) a.queue.items c.push_back_reserved.new.self.items a.last last replica
          c.self.invariant.1 (c.push_back_reserved.ensures.items ∙ ap (λ z. z ++ replica ∷ []) c.room_for_one-room.ensures.items) begins made c.copy.ensures,
      all,
    )

pub returns-clause-accepted : goal.returns-clause-accepted
returns-clause-accepted g c =
    let a = c.self.inside in
    let opening = g.S.Sharing.opening in
    let texts = texts_of c.args.batches.now in
    let found = c.check-last.result.0 in
    let more = take found.count texts in
    let waiting = drop a.writer.behind a.writer.log.items ++ a.queue.items in
    let is = before opening a.checked a.published a.last waiting c.args.self.now c.self.invariant.1 c.self.invariant.2 c.self.view_is in
    let added : c.add_all.new.prefix ≡ a.last ++ more = c.add_all.ensures c.if-not-add_all.false ∙ ap (λ z. z ++ texts_of (take found.count c.args.batches.now)) c.copy-prefix.ensures ∙ ap (λ z. a.last ++ z) (texts_first found.count c.args.batches.now) in
    let pending : drop (length a.published) c.add_all.new.prefix ≡ drop (length a.published) a.last ++ more = ap (drop (length a.published)) added ∙ pending_more opening a.published waiting a.last more c.self.invariant.1 in
    let old : Batches = record { published = a.published; pending = drop (length a.published) a.last } in
    let new : Batches = record { published = a.published; pending = drop (length a.published) c.add_all.new.prefix } in
    let grown : new ≡ with_batches more old = ap (λ (p : List (List ℕ)). record { published = a.published; pending = p }) pending in
    has_accepted opening a.checked (last_of a.checked c.check-last.result.1) c.args.self.now new texts found is c.check-last.ensures.checked (grown ∙ ap (with_batches more) c.self.view_is)

pub returns-clause-kept : goal.returns-clause-kept
returns-clause-kept g c kept has =
    subst (λ (l : List (List ℕ)). g.K.Keeps.keeps c.keep_and_copy.new.keeper (kept ++ l)) (texts_first c.check-last.result.0.count c.args.batches.now) (c.in-Ok.ensures.kept kept has)

pub returns-clause-any_moment : goal.returns-clause-any_moment
returns-clause-any_moment g c reliable kept has =
    let a = c.self.inside in
    let opening = g.S.Sharing.opening in
    let found = c.check-last.result.0 in
    let is = before opening a.checked a.published a.last (drop a.writer.behind a.writer.log.items ++ a.queue.items) c.args.self.now c.self.invariant.1 c.self.invariant.2 c.self.view_is in
    weaker g.K.Keeps.moment g.K.Keeps.left_since c.args.keeper.now c.keep_and_copy.new.keeper _ _ (c.in-Ok.ensures.any_moment reliable kept has)
    (λ file. crash_leaves opening a.checked (last_of a.checked c.check-last.result.1) c.args.self.now c.args.batches.now found kept (g.K.Keeps.stands c.args.keeper.now file) is c.check-last.ensures.checked)
