-- Heads that don't end a connection are answered as each alone.
use Rattle.std.proofs.Common.{◌≡◌, ◌∙◌, ℕ, zero, suc, List, [], ◌∷◌, ◌++◌, ◌≤◌, inl, inr, All, length, arith, append-nil, false, refl, sym, ap, subst, ◌==◌}
use Rattle.std.specs.List.{flat_map, concat}
use Rattle.std.proofs.lemmas.Bool.{ne_eqb}
use Rattle.httparse.specs.Grammar.{RequestHead, print_request}
use Rattle.httpedge.specs.Exchange.{Said, IsReply, Follows, IsExchange, says_next, IsFurther, AreAnsweredAlone}
use Rattle.httpedge.specs.Head.{HasHead}
use Rattle.httpedge.specs.Meaning.{Meaning, Nothing, Refused, Asks, head_meaning}
use Rattle.httpedge.specs.Turn.{Turn, Last, Further, IsTurn}
use Rattle.httpedge.proofs.Exchanges.{one-more}
use Rattle.httpedge.proofs.Heads.{nothing-headless, turn-is-one}

-- nothing is answered by nothing
nothing-more : (n : ℕ) (old new : List Said) (text : List ℕ) → IsExchange says_next n [] old text new → (text ≡ []) × (new ≡ old)
unfolding IsExchange
nothing-more zero old new text answered = answered
nothing-more (suc n) old new text (turn, is, follows) =
    let same : turn ≡ Last Nothing = turn-is-one (n == 0) [] turn (Last Nothing) is (inr (nothing-headless, refl)) in
    subst (λ (t : Turn). Follows says_next (IsExchange says_next n) t old text new) same follows

-- a head alone has its reply, without the Connection line
alone-reply : (n : ℕ) (head : RequestHead) (old : List Said) (text : List ℕ) → IsFurther head → (n == 0) ≡ false → IsExchange says_next (suc n) (print_request head) old text [] →
    IsReply says_next false (head_meaning head) old text []
unfolding IsExchange
alone-reply n head old text further some (turn, is, follows) =
    let has : HasHead (print_request head) head = record { rest = []; reads = (further.is_head, sym (append-nil (print_request head))); bytes = further.bytes; fields = further.fields } in
    let known : IsTurn (n == 0) (print_request head) (Further (head_meaning head) []) = inl (head, has, rw (further.no_body, further.stays, some) refl) in
    let same = turn-is-one (n == 0) (print_request head) turn (Further (head_meaning head) []) is known in
    let (first, rest, between, reply, others, e) = subst (λ (t : Turn). Follows says_next (IsExchange says_next n) t old text []) same follows in
    let (none, done) = nothing-more n between [] rest others in
    let all : text ≡ first = e ∙ ap (λ l. first ++ l) none ∙ append-nil first in
    subst (λ (t : List ℕ). IsReply says_next false (head_meaning head) old t []) (sym all) (subst (λ (l : List Said). IsReply says_next false (head_meaning head) old first l) (sym done) reply)

-- further outcomes are left to further heads
reply-more : (meaning : Meaning) (old others : List Said) (text : List ℕ) → IsReply says_next false meaning old text [] → IsReply says_next false meaning (old ++ others) text others
reply-more Nothing old others text reply = (reply.0, ap (λ l. l ++ others) reply.1)
reply-more (Refused refusal) old others text reply = (reply.0, ap (λ l. l ++ others) reply.1)
reply-more (Asks query) old others text (said, next, is) = (said, ap (λ l. l ++ others) next, is)

pub answered-alone : (m : ℕ) (heads : List RequestHead) (outcomes : List (List Said)) (texts : List (List ℕ)) → length heads ≤ m → All IsFurther heads → AreAnsweredAlone heads outcomes texts →
    IsExchange says_next (suc m) (flat_map print_request heads) (flat_map (λ (said : List Said). said) outcomes) (concat texts) []
unfolding IsExchange
answered-alone m [] [] [] few further alone = (Last Nothing, inr (nothing-headless, refl), (refl, refl))
answered-alone m [] [] (text ∷ texts) few further alone = absurd alone
answered-alone m [] (outcome ∷ outcomes) texts few further alone = absurd alone
answered-alone m (head ∷ heads) [] texts few further alone = absurd alone
answered-alone m (head ∷ heads) (outcome ∷ outcomes) [] few further alone = absurd alone
answered-alone zero (head ∷ heads) (outcome ∷ outcomes) (text ∷ texts) few further alone = absurd (omega (arith, few))
answered-alone (suc m) (head ∷ heads) (outcome ∷ outcomes) (text ∷ texts) few further (first, alone) =
    let own = further 0 head (omega arith) in
    let reply = alone-reply 999 head outcome text own refl first in
    let others = answered-alone m heads outcomes texts (omega (arith, few)) (λ k d below. further (suc k) d (omega (arith, below))) alone in
    one-more head (suc m) (flat_map print_request heads) (outcome ++ flat_map (λ (said : List Said). said) outcomes) (flat_map (λ (said : List Said). said) outcomes) [] text (concat texts) own
    (reply-more (head_meaning head) outcome (flat_map (λ (said : List Said). said) outcomes) text reply) (ne_eqb (suc m) 0 (λ e. absurd (omega (arith, e)))) others
