-- A stream and outcomes are answered by one text.
use Rattle.std.proofs.Common.{◌≡◌, ◌∙◌, ℕ, zero, suc, List, [], ◌∷◌, ◌++◌, ◌+◌, inl, inr, All, length, arith, append_assoc, append-nil, Bool, true, false, refl, sym, ap, subst, ◌==◌}
use Rattle.httpedge.specs.Exchange.{Said, said_text, IsReply, Follows, IsExchange, says_next, IsBegun, IsFurther, AreReplies}
use Rattle.std.specs.List.{flat_map}
use Rattle.std.proofs.lemmas.Bool.{ne_eqb}
use Rattle.httparse.specs.Grammar.{RequestHead, print_request}
use Rattle.httpedge.specs.Head.{HasHead}
use Rattle.httpedge.specs.Meaning.{Meaning, Nothing, Refused, Asks, head_meaning}
use Rattle.httpedge.specs.Turn.{Turn, Last, Further}
use Rattle.httpedge.proofs.Heads.{turn-is-one}

list-head : {X : Type 0} (x : X) (xs : List X) → X
list-head x [] = x
list-head x (y ∷ ys) = y

list-tail : {X : Type 0} (xs : List X) → List X
list-tail [] = []
list-tail (y ∷ ys) = ys

reply-is-one : (closing : Bool) (meaning : Meaning) (old : List Said) (a b : List ℕ) (c d : List Said) →
    IsReply says_next closing meaning old a c → IsReply says_next closing meaning old b d → (a ≡ b) × (c ≡ d)
unfolding list-head list-tail
reply-is-one closing Nothing old a b c d x y = (x.0 ∙ sym y.0, x.1 ∙ sym y.1)
reply-is-one closing (Refused refusal) old a b c d x y = (x.0 ∙ sym y.0, x.1 ∙ sym y.1)
reply-is-one closing (Asks query) old a b c d x y =
    let same : (x.0 ∷ c) ≡ (y.0 ∷ d) = sym x.1 ∙ y.1 in
    let said : x.0 ≡ y.0 = ap (list-head x.0) same in
    (x.2 ∙ ap (λ s. said_text s closing) said ∙ sym y.2, ap list-tail same)

follows-is-one : (next : List ℕ → List Said → List ℕ → List Said → Type 0) →
    ((stream : List ℕ) (old : List Said) (a b : List ℕ) (c d : List Said) → next stream old a c → next stream old b d → (a ≡ b) × (c ≡ d)) →
    (turn : Turn) (old : List Said) (a b : List ℕ) (c d : List Said) → Follows says_next next turn old a c → Follows says_next next turn old b d → (a ≡ b) × (c ≡ d)
follows-is-one next one (Last meaning) old a b c d x y = reply-is-one true meaning old a b c d x y
follows-is-one next one (Further meaning after) old a b c d (f, r, m, p, q, e) (g, s, n, u, v, h) =
    let first = reply-is-one false meaning old f g m n p u in
    let rest = one after n r s c d (subst (λ w. next after w r c) first.1 q) v in
    (e ∙ rw (first.0, rest.0) refl ∙ sym h, rest.1)

pub exchange-is-one : (n : ℕ) (stream : List ℕ) (old : List Said) (a b : List ℕ) (c d : List Said) →
    IsExchange says_next n stream old a c → IsExchange says_next n stream old b d → (a ≡ b) × (c ≡ d)
unfolding IsExchange
exchange-is-one zero stream old a b c d x y = (x.0 ∙ sym y.0, x.1 ∙ sym y.1)
exchange-is-one (suc n) stream old a b c d (t, p, q) (u, r, s) =
    let same = turn-is-one (n == 0) stream t u p r in
    follows-is-one (IsExchange says_next n) (exchange-is-one n) u old a b c d (subst (λ (w : Turn). Follows says_next (IsExchange says_next n) w old a c) same q) s

-- a begun answer to a turn is a prefix of its answer
prefix-follows : (part next : List ℕ → List Said → List ℕ → List Said → Type 0) →
    ((stream : List ℕ) (old : List Said) (a b : List ℕ) (c d : List Said) → part stream old a c → next stream old b d → (more : List ℕ) × (b ≡ a ++ more)) →
    (turn : Turn) (old : List Said) (a b : List ℕ) (c d : List Said) → Follows says_next part turn old a c → Follows says_next next turn old b d → (more : List ℕ) × (b ≡ a ++ more)
prefix-follows part next prefix (Last meaning) old a b c d x y = ([], sym (append-nil a ∙ (reply-is-one true meaning old a b c d x y).0))
prefix-follows part next prefix (Further meaning after) old a b c d (f, r, m, p, q, e) (g, s, n, u, v, h) =
    let first = reply-is-one false meaning old f g m n p u in
    let (more, rest) = prefix after n r s c d (subst (λ w. part after w r c) first.1 q) v in
    (more, h ∙ ap (λ l. g ++ l) rest ∙ ap (λ l. l ++ (r ++ more)) (sym first.0) ∙ sym (append_assoc f r more) ∙ ap (λ l. l ++ more) (sym e))

pub begun-prefix : (n : ℕ) (stream : List ℕ) (old : List Said) (a b : List ℕ) (c d : List Said) → IsBegun says_next n stream old a c → IsExchange says_next n stream old b d → (more : List ℕ) × (b ≡ a ++ more)
unfolding IsExchange IsBegun
begun-prefix zero stream old a b c d x y = (b, rw (x.0) refl)
begun-prefix (suc n) stream old a b c d (inl x) y = (b, rw (x.0) refl)
begun-prefix (suc n) stream old a b c d (inr (t, p, q)) (u, r, s) =
    let same = turn-is-one (n == 0) stream t u p r in
    prefix-follows (IsBegun says_next n) (IsExchange says_next n) (begun-prefix n) u old a b c d (subst (λ (w : Turn). Follows says_next (IsBegun says_next n) w old a c) same q) s

-- one head that doesn't end the connection, and then the rest
pub one-more : (head : RequestHead) (m : ℕ) (rest : List ℕ) (old between new : List Said) (first text : List ℕ) → IsFurther head →
    IsReply says_next false (head_meaning head) old first between → (m == 0) ≡ false → IsExchange says_next m rest between text new → IsExchange says_next (suc m) (print_request head ++ rest) old (first ++ text) new
unfolding IsExchange
one-more head m rest old between new first text further reply some others =
    let has : HasHead (print_request head ++ rest) head = record { rest = rest; reads = (further.is_head, refl); bytes = further.bytes; fields = further.fields } in
    (Further (head_meaning head) rest, inl (head, has, rw (further.no_body, further.stays, some) refl), (first, text, between, reply, others, refl))

some-left : (k n : ℕ) → (k + suc n == 0) ≡ false
some-left k n = ne_eqb (k + suc n) 0 (λ e. absurd (omega (arith, e)))

pub heads-in-turn : (heads : List RequestHead) (n : ℕ) (rest : List ℕ) (old between new : List Said) (prefix text : List ℕ) → All IsFurther heads →
    AreReplies says_next heads old prefix between → IsExchange says_next (suc n) rest between text new →
    IsExchange says_next (length heads + suc n) (flat_map print_request heads ++ rest) old (prefix ++ text) new
heads-in-turn [] n rest old between new prefix text further replies others =
    let none : length {A = RequestHead} [] + suc n ≡ suc n = omega arith in
    rw (none, replies.0, ← replies.1) others
heads-in-turn (head ∷ heads) n rest old between new prefix text further (first, later, middle, reply, replies, e) others =
    let count : length (head ∷ heads) + suc n ≡ suc (length heads + suc n) = omega arith in
    let after = heads-in-turn heads n rest middle between new later text (λ k d below. further (suc k) d (omega (arith, below))) replies others in
    rw (count, e, append_assoc first later text, append_assoc (print_request head) (flat_map print_request heads) rest)
    (one-more head (length heads + suc n) (flat_map print_request heads ++ rest) old middle new first (later ++ text) (further 0 head (omega arith)) reply (some-left (length heads) n) after)
