-- Each answer is right.
use Rattle.std.proofs.Common.{◌≡◌, List, [], ◌∷◌, ◌++◌, length, All, Option, None, Some, IfSome, IsSomeAnd, sym, subst, arith}
use mathlib.Core.List.{IsPrefix}
use Rattle.sharing.specs.Sharing.{Reader, Sharing, opened}
use Rattle.sharing.specs.Event.Event.{Answer}
use Rattle.sharing.specs.Event.{Event, step, run, heard}
use Rattle.sharing.specs.Reply.{IsAnswerAfter, IsReply, AreReplies}
use Rattle.sharing.specs.Law.{IsRight, AnswersAreRight}
use Rattle.sharing.proofs.Keeping.{opened_keeps, opened_heard}

module _ {S A B Q : Type 0} (start : S) (batch : S → B → Option S) (answers : S → Q → A → Type 0) where
  -- a reply of an event, in the sharing after the events before it
  reply_at : (w : Sharing B) (before later : List (Event B Q)) (given rest : List (Option A)) (e : Event B Q) (reply : Option A) → length given ≡ length before
      → AreReplies start batch answers w (before ++ e ∷ later) (given ++ reply ∷ rest) → IsReply start batch answers (run start batch w before) e reply
  reply_at w [] later [] rest e reply same all = all.0
  reply_at w [] later (g ∷ given) rest e reply same all = absurd (omega (arith, same))
  reply_at w (b ∷ before) later [] rest e reply same all = absurd (omega (arith, same))
  reply_at w (b ∷ before) later (g ∷ given) rest e reply same all = reply_at (step start batch w b) before later given rest e reply (omega (arith, same)) all.1

  right : (published : List B) (r : Reader B) (lists : List (List B)) (query : Q) (answer : A) (entry : Option (List B)) → IsPrefix r.known published → IfSome entry (λ list. list ≡ r.known)
      → All (λ list. IsPrefix list r.known) lists → IsSomeAnd entry (IsAnswerAfter start batch answers query answer) → IsRight start batch answers published lists query answer
  right published r lists query answer None p e begins is = absurd is
  right published r lists query answer (Some list) p e begins is = record {
    batches = list;
    first = subst (λ z. IsPrefix z published) (sym e) p;
    begins = subst (λ z. All (λ l. IsPrefix l z) lists) (sym e) begins;
    answered = is;
  }

  pub answers_are_right : AnswersAreRight start batch answers
  answers_are_right before later given rest r query answer same all =
      let w = run start batch opened before in
      let fits = (opened_keeps start batch before).readers r in
      right w.published (w.readers r) (heard start batch opened before r) query answer (w.readers r).entered fits.known fits.same (opened_heard start batch before r)
      (reply_at opened before later given rest (Answer r query) (Some answer) same all)
