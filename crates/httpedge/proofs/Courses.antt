-- The course of a connection after a piece: nothing is decided, or a head that goes on, or one that ends it.
use Rattle.std.proofs.Common.{◌≡◌, ◌∙◌, ◌<◌, ◌≤◌, ◌+◌, ◌-◌, ℕ, suc, List, [], ◌++◌, Bool, true, false, not, ◌&&◌, ◌||◌, ◌==◌, Option, None, Some, if◌then◌else◌, inl, inr, length, take, drop, refl, sym, ap, subst, arith, append_assoc, take-append-drop}
use Rattle.std.proofs.lemmas.Bool.{ne_eqb}
use Rattle.std.proofs.lemmas.Bool.Decides.{leb_tells}
use Rattle.std.proofs.lemmas.List.{take_all}
use Rattle.httpedge.specs.Connection.{Progress, Open, Decided, Course, LeavesOpen, Feeds, step_of, target_of, is_decided, is_closing, goes_on, forgotten, ends_by}
use Rattle.httpedge.specs.Head.{IsTargetOf}
use Rattle.httpedge.specs.Exchange.{Said, IsReply, IsExchange, IsBegun}
use Rattle.httpedge.specs.Meaning.{decision_meaning}
use Rattle.httpedge.specs.Serving.{IsOpen, IsReading, HasCome, came_of, requests_left, rest_of_course, missing}
use Rattle.httpedge.specs.Verdict.{Decides}
use Rattle.httpedge.specs.declared.conn.TheConstants.{REQUESTS}
use Rattle.httpedge.specs.declared.decision.Decision.{Decision}
use Rattle.httpedge.proofs.Heads.{nothing-headless}
use Rattle.httpedge.proofs.Serving.{come-more, come-next, come-last, come-broken, so_far, rest_by}

-- a connection to which nothing came is open
pub nothing-open : LeavesOpen []
nothing-open = (nothing-headless, omega arith)

-- the bytes that came to an open one are fewer than a head may have
pub open-short : (p : Progress) → IsOpen p → length (came_of p) < 16384
open-short (Open came) opened = opened.1
open-short (Decided closes decided target) opened = absurd opened

-- an option that isn't some is none
pub none-by : {X : Type 0} (o : Option X) → ((x : X) → o ≡ Some x → ⊥) → o ≡ None
none-by None other = refl
none-by (Some x) other = absurd (other x refl)

-- where nothing is decided, all of the piece was taken
pub more-came : {A : Type 0} (answers : A → List ℕ → Said → A → Type 0) (n k : ℕ) (read said piece : List ℕ) (first now : A) (p q : Progress) (taken : ℕ) → IsOpen p → Feeds p piece taken q → step_of q ≡ None →
    HasCome answers n (so_far read first said) (rest_by k (came_of p) now) → IsOpen q × HasCome answers n (so_far (read ++ piece) first said) (rest_by k (came_of q) now)
more-came answers n k read said piece first now (Open came) (Open bytes) taken opened feeds step come =
    let long : length piece ≤ taken = elim (leb_tells (length piece) taken) [
      | inl h ↦ h.1
      | inr h ↦ absurd (let e : false ≡ true = feeds.cut (omega (arith, h.1)) in cc)
    ] in
    let all : came ++ take taken piece ≡ came ++ piece = ap (λ l. came ++ l) (take_all taken piece long) in
    let is : bytes ≡ came ++ piece = feeds.comes.0 ∙ all in
    (subst LeavesOpen (sym feeds.comes.0) feeds.comes.1, rw is (come-more answers n k read came piece said first now come))
more-came answers n k read said piece first now (Open came) (Decided closes decided target) taken opened feeds step come = absurd (cc)
more-came answers n k read said piece first now (Decided closes decided target) q taken opened feeds step come = absurd opened

-- the bytes that were taken decide
pub record IsDecided (came part : List ℕ) (d : Decision) (q : Progress) : Type 0 where
  pub closes : Bool
  pub is : q ≡ Decided closes d (target_of q)
  pub decides : Decides (came ++ part) closes (decision_meaning d (target_of q))

pub decided-by : (p q : Progress) (piece : List ℕ) (taken : ℕ) (d : Decision) → IsOpen p → Feeds p piece taken q → step_of q ≡ Some d → IsDecided (came_of p) (take taken piece) d q
decided-by (Open came) (Open bytes) piece taken d opened feeds step = absurd (cc)
decided-by (Open came) (Decided closes decided target) piece taken d opened feeds step =
    let same : decided ≡ d = cc in
    record {
      closes = closes;
      is = ap (λ x. Decided closes x target) same;
      decides = subst (λ (x : Decision). Decides (came ++ take taken piece) closes (decision_meaning x target)) same feeds.comes.0;
    }
decided-by (Decided closes decided target) q piece taken d opened feeds step = absurd opened

-- and their target is found
pub decided-target : (p q : Progress) (piece : List ℕ) (taken : ℕ) (d : Decision) → IsOpen p → Feeds p piece taken q → step_of q ≡ Some d → IsTargetOf (came_of p ++ take taken piece) (target_of q)
decided-target (Open came) (Open bytes) piece taken d opened feeds step = absurd (cc)
decided-target (Open came) (Decided closes decided target) piece taken d opened feeds step = feeds.comes.1
decided-target (Decided closes decided target) q piece taken d opened feeds step = absurd opened

-- neither holds
neither : (a b : Bool) → not (a || b) ≡ true → (a ≡ false) × (b ≡ false)
neither true b e = absurd (cc)
neither false true e = absurd (cc)
neither false false e = (refl, refl)

either : (a b : Bool) → not (a || b) ≡ false → (a || b) ≡ true
either true b e = refl
either false true e = refl
either false false e = absurd (cc)

-- the last head is the one after which none is left
is-last : (done : ℕ) → done < REQUESTS → (done + 1 == REQUESTS) ≡ (REQUESTS - (done + 1) == 0)
is-last done below =
    elim (leb_tells REQUESTS (done + 1)) [
      | inl h ↦
          let e : done + 1 ≡ REQUESTS = omega (arith, h.1, below) in
          rw e refl
      | inr h ↦ ne_eqb (done + 1) REQUESTS (λ e. absurd (omega (arith, e, h.1))) ∙ sym (ne_eqb (REQUESTS - (done + 1)) 0 (λ e. absurd (omega (arith, e, h.1))))
    ]

-- there is a decision that ends the connection, or one that doesn't
closing-is : (course : Course) (closes : Bool) (d : Decision) → course.progress ≡ Decided closes d (target_of course.progress) → is_closing course ≡ (closes || (course.done + 1 == REQUESTS))
closing-is course closes d is = ap (ends_by (course.done + 1 == REQUESTS)) is

going-is : (course : Course) (closes : Bool) (d : Decision) → course.progress ≡ Decided closes d (target_of course.progress) → goes_on course ≡ not (closes || (course.done + 1 == REQUESTS))
going-is course closes d is = ap (λ q. is_decided q && not (ends_by (course.done + 1 == REQUESTS) q)) is

-- so many fewer reads are needed
pub less-missing : (old new : Course) → came_of new.progress ≡ [] → requests_left new < requests_left old → IsReading old → missing new < missing old
less-missing old new nothing less reading =
    let short : length (came_of old.progress) < 16384 = open-short old.progress reading.opened in
    omega (arith, less, short, ap length nothing)

-- a head was answered that goes on
pub next-came : {A : Type 0} (answers : A → List ℕ → Said → A → Type 0) (n : ℕ) (read said rest reply : List ℕ) (first now between : A) (old fed new : Course) (taken : ℕ) (d : Decision) (on : Bool) →
    IsReading old → Feeds old.progress rest taken fed.progress → fed.done ≡ old.done → step_of fed.progress ≡ Some d →
    IsReply answers (is_closing fed) (decision_meaning d (target_of fed.progress)) now reply between → on ≡ goes_on fed → on ≡ true → new ≡ (if goes_on fed then forgotten fed else fed) →
    HasCome answers n (so_far read first said) (rest_of_course old now) →
    IsReading new × HasCome answers n (so_far (read ++ take taken rest) first (said ++ reply)) (rest_of_course new between) × (missing new < missing old)
next-came answers n read said rest reply first now between old fed new taken d on reading feeds same step replies goes yes_on next come =
    let decided = decided-by old.progress fed.progress rest taken d reading.opened feeds step in
    let free = neither decided.closes (fed.done + 1 == REQUESTS) (sym (going-is fed decided.closes d decided.is) ∙ sym goes ∙ yes_on) in
    let is : new ≡ forgotten fed = next ∙ ap (λ (b : Bool). if b then forgotten fed else fed) (sym goes ∙ yes_on) in
    let below : old.done < REQUESTS = reading.count in
    let k = REQUESTS - (fed.done + 1) in
    let left : requests_left old ≡ suc k = omega (arith, below, same) in
    let some : (k == 0) ≡ false = sym (is-last fed.done (omega (arith, below, same))) ∙ free.1 in
    let open_still : is_closing fed ≡ false = closing-is fed decided.closes d decided.is ∙ rw (free.0, free.1) refl in
    let more : fed.done + 1 < REQUESTS = elim (leb_tells REQUESTS (fed.done + 1)) [
      | inl h ↦ absurd (let e : fed.done + 1 ≡ REQUESTS = omega (arith, h.1, below, same) in let f : (REQUESTS == REQUESTS) ≡ false = subst (λ (m : ℕ). (m == REQUESTS) ≡ false) e free.1 in cc)
      | inr h ↦ omega (arith, h.1)
    ] in
    let c : HasCome answers n (so_far read first said) (rest_by (suc k) (came_of old.progress) now) = subst (λ (m : ℕ). HasCome answers n (so_far read first said) (rest_by m (came_of old.progress) now)) left come in
    let r : IsReply answers false (decision_meaning d (target_of fed.progress)) now reply between = subst (λ (b : Bool). IsReply answers b (decision_meaning d (target_of fed.progress)) now reply between) open_still replies in
    let decides : Decides (came_of old.progress ++ take taken rest) false (decision_meaning d (target_of fed.progress)) = subst (λ (b : Bool). Decides (came_of old.progress ++ take taken rest) b (decision_meaning d (target_of fed.progress))) free.0 decided.decides in
    rw is (record { count = more; opened = nothing-open }, come-next answers n k read (came_of old.progress) (take taken rest) said reply first now between (decision_meaning d (target_of fed.progress)) c decides some r, less-missing old (forgotten fed) refl (omega (arith, left)) reading)

-- a head was answered that ends the connection
pub last-came : {A : Type 0} (answers : A → List ℕ → Said → A → Type 0) (n : ℕ) (read said rest reply : List ℕ) (first now last : A) (old fed : Course) (taken : ℕ) (d : Decision) (on : Bool) →
    IsReading old → Feeds old.progress rest taken fed.progress → fed.done ≡ old.done → step_of fed.progress ≡ Some d →
    IsReply answers (is_closing fed) (decision_meaning d (target_of fed.progress)) now reply last → on ≡ goes_on fed → on ≡ false →
    HasCome answers n (so_far read first said) (rest_of_course old now) →
    (more : List ℕ) → IsExchange answers n ((read ++ take taken rest) ++ more) first (said ++ reply) last
last-came answers n read said rest reply first now last old fed taken d on reading feeds same step replies goes off come =
    let decided = decided-by old.progress fed.progress rest taken d reading.opened feeds step in
    let ends = either decided.closes (fed.done + 1 == REQUESTS) (sym (going-is fed decided.closes d decided.is) ∙ sym goes ∙ off) in
    let below : old.done < REQUESTS = reading.count in
    let k = REQUESTS - (fed.done + 1) in
    let left : requests_left old ≡ suc k = omega (arith, below, same) in
    let at_last : (decided.closes || (k == 0)) ≡ true = ap (λ (b : Bool). decided.closes || b) (sym (is-last fed.done (omega (arith, below, same)))) ∙ ends in
    let c : HasCome answers n (so_far read first said) (rest_by (suc k) (came_of old.progress) now) = subst (λ (m : ℕ). HasCome answers n (so_far read first said) (rest_by m (came_of old.progress) now)) left come in
    let closed : is_closing fed ≡ true = closing-is fed decided.closes d decided.is ∙ ends in
    let r : IsReply answers true (decision_meaning d (target_of fed.progress)) now reply last = subst (λ (b : Bool). IsReply answers b (decision_meaning d (target_of fed.progress)) now reply last) closed replies in
    come-last answers n k read (came_of old.progress) (take taken rest) said reply first now last decided.closes (decision_meaning d (target_of fed.progress)) c decided.decides at_last r

-- the answer to a head was begun
pub broken-came : {A : Type 0} (answers : A → List ℕ → Said → A → Type 0) (n : ℕ) (read said rest reply : List ℕ) (first now last : A) (old fed : Course) (taken : ℕ) (d : Decision) →
    IsReading old → Feeds old.progress rest taken fed.progress → fed.done ≡ old.done → step_of fed.progress ≡ Some d →
    IsReply answers (is_closing fed) (decision_meaning d (target_of fed.progress)) now reply last →
    HasCome answers n (so_far read first said) (rest_of_course old now) →
    (more : List ℕ) → IsBegun answers n ((read ++ take taken rest) ++ more) first (said ++ reply) last
broken-came answers n read said rest reply first now last old fed taken d reading feeds same step replies come =
    let decided = decided-by old.progress fed.progress rest taken d reading.opened feeds step in
    let below : old.done < REQUESTS = reading.count in
    let k = REQUESTS - (fed.done + 1) in
    let left : requests_left old ≡ suc k = omega (arith, below, same) in
    let c : HasCome answers n (so_far read first said) (rest_by (suc k) (came_of old.progress) now) = subst (λ (m : ℕ). HasCome answers n (so_far read first said) (rest_by m (came_of old.progress) now)) left come in
    let closed : is_closing fed ≡ (decided.closes || (k == 0)) = closing-is fed decided.closes d decided.is ∙ ap (λ (b : Bool). decided.closes || b) (is-last fed.done (omega (arith, below, same))) in
    come-broken answers n k read (came_of old.progress) (take taken rest) said reply first now last decided.closes (is_closing fed) (decision_meaning d (target_of fed.progress)) c decided.decides closed replies

-- the bytes that were read of a piece, and those left of it, are the piece
pub piece-parts : (came prefix rest piece more : List ℕ) (taken : ℕ) → prefix ++ rest ≡ piece → ((came ++ prefix) ++ take taken rest) ++ (drop taken rest ++ more) ≡ (came ++ piece) ++ more
piece-parts came prefix rest piece more taken all =
    sym (append_assoc ((came ++ prefix) ++ take taken rest) (drop taken rest) more)
    ∙ ap (λ l. l ++ more) (append_assoc (came ++ prefix) (take taken rest) (drop taken rest) ∙ ap (λ l. (came ++ prefix) ++ l) (take-append-drop taken rest) ∙ append_assoc came prefix rest ∙ ap (λ l. came ++ l) all)

-- the prefix of a piece grows
pub prefix-grows : (prefix rest piece : List ℕ) (taken : ℕ) → prefix ++ rest ≡ piece → (prefix ++ take taken rest) ++ drop taken rest ≡ piece
prefix-grows prefix rest piece taken all = append_assoc prefix (take taken rest) (drop taken rest) ∙ ap (λ l. prefix ++ l) (take-append-drop taken rest) ∙ all
