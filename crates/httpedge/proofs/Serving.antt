-- Lemmas for a loop that answers one decision after the other: a decision that goes on, and one that ends.
use Rattle.std.proofs.Common.{append_assoc, append-nil, ◌≡◌, ℕ, zero, suc, List, [], ◌++◌, Bool, true, false, ◌||◌, ◌==◌, inl, inr, refl, sym, subst}
use Rattle.httpedge.specs.Exchange.{Said, IsReply, IsExchange, IsBegun}
use Rattle.httpedge.specs.Meaning.{Meaning}
use Rattle.httpedge.specs.Reads.{Wants}
use Rattle.httpedge.specs.Serving.{ExchangeSoFar, ExchangeRest, Leads, HasCome}
use Rattle.httpedge.specs.Turn.{Last, Further, AlwaysTurns}
use Rattle.httpedge.specs.Verdict.{Decides}

-- some bytes decide, and don't end the connection: their answer, and then that of what follows them
pub serve-further : {A : Type 0} (answers : A → List ℕ → Said → A → Type 0) (n : ℕ) (bytes more : List ℕ) (meaning : Meaning) (old between new : A) (first rest : List ℕ) →
    Decides bytes false meaning → (n == 0) ≡ false → IsReply answers false meaning old first between → IsExchange answers n more between rest new →
    IsExchange answers (suc n) (bytes ++ more) old (first ++ rest) new
unfolding IsExchange
serve-further answers n bytes more meaning old between new first rest decides some reply others =
    (Further meaning more, subst (λ (b : Bool). AlwaysTurns (n == 0) bytes b meaning) some (decides.turns (n == 0)) more, (first, rest, between, reply, others, refl))

-- some bytes decide, and end the connection: whatever follows them
pub serve-last : {A : Type 0} (answers : A → List ℕ → Said → A → Type 0) (n : ℕ) (bytes more : List ℕ) (closes : Bool) (meaning : Meaning) (old new : A) (text : List ℕ) →
    Decides bytes closes meaning → (closes || (n == 0)) ≡ true → IsReply answers true meaning old text new → IsExchange answers (suc n) (bytes ++ more) old text new
unfolding IsExchange
serve-last answers n bytes more closes meaning old new text decides ends reply =
    (Last meaning, subst (λ (b : Bool). AlwaysTurns (n == 0) bytes b meaning) ends (decides.turns (n == 0)) more, reply)

-- the same of an exchange that stops early
pub begin-further : {A : Type 0} (answers : A → List ℕ → Said → A → Type 0) (n : ℕ) (bytes more : List ℕ) (meaning : Meaning) (old between new : A) (first rest : List ℕ) →
    Decides bytes false meaning → (n == 0) ≡ false → IsReply answers false meaning old first between → IsBegun answers n more between rest new →
    IsBegun answers (suc n) (bytes ++ more) old (first ++ rest) new
unfolding IsBegun
begin-further answers n bytes more meaning old between new first rest decides some reply others =
    inr (Further meaning more, subst (λ (b : Bool). AlwaysTurns (n == 0) bytes b meaning) some (decides.turns (n == 0)) more, (first, rest, between, reply, others, refl))

pub begin-last : {A : Type 0} (answers : A → List ℕ → Said → A → Type 0) (n : ℕ) (bytes more : List ℕ) (closes : Bool) (meaning : Meaning) (old new : A) (text : List ℕ) →
    Decides bytes closes meaning → (closes || (n == 0)) ≡ true → IsReply answers true meaning old text new → IsBegun answers (suc n) (bytes ++ more) old text new
unfolding IsBegun
begin-last answers n bytes more closes meaning old new text decides ends reply =
    inr (Last meaning, subst (λ (b : Bool). AlwaysTurns (n == 0) bytes b meaning) ends (decides.turns (n == 0)) more, reply)

-- nothing more is begun
pub begun-nothing : {A : Type 0} (answers : A → List ℕ → Said → A → Type 0) (n : ℕ) (more : List ℕ) (now : A) → IsBegun answers n more now [] now
unfolding IsBegun
begun-nothing answers zero more now = (refl, refl)
begun-nothing answers (suc n) more now = inl (refl, refl)

-- the same of reads that are needed
pub want-further : (n : ℕ) (bytes more : List ℕ) (meaning : Meaning) → Decides bytes false meaning → (n == 0) ≡ false → Wants n more → Wants (suc n) (bytes ++ more)
unfolding Wants
want-further n bytes more meaning decides some wants =
    inr (meaning, more, subst (λ (b : Bool). AlwaysTurns (n == 0) bytes b meaning) some (decides.turns (n == 0)) more, wants)

-- an exchange so far, by its parts
abbrev pub so_far : {A : Type 0} → List ℕ → A → List ℕ → ExchangeSoFar A
so_far read first said = record { read = read; first = first; said = said }

-- what is left of an exchange, by its parts
abbrev pub rest_by : {A : Type 0} → ℕ → List ℕ → A → ExchangeRest A
rest_by requests came now = record { requests = requests; came = came; now = now }

-- nothing was read but what came
leads-first : {A : Type 0} (P : ℕ → List ℕ → A → List ℕ → A → Type 0) (n : ℕ) (came : List ℕ) (first : A) → Leads P n (so_far (came ++ []) first []) (rest_by n came first)
leads-first P n came first more text last others = rw (append-nil came) others

-- a piece was taken that decides nothing
leads-more : {A : Type 0} (P : ℕ → List ℕ → A → List ℕ → A → Type 0) (n k : ℕ) (read came part said : List ℕ) (first now : A) →
    Leads P n (so_far read first said) (rest_by k came now) → Leads P n (so_far (read ++ part) first said) (rest_by k (came ++ part) now)
leads-more P n k read came part said first now leads more text last others =
    rw (append_assoc read part more) (leads (part ++ more) text last (rw (← append_assoc came part more) others))

-- bytes were taken that decide and go on, and their answer was sent
leads-next : {A : Type 0} (P : ℕ → List ℕ → A → List ℕ → A → Type 0) (n k : ℕ) (read came part said reply : List ℕ) (first now between : A) →
    Leads P n (so_far read first said) (rest_by (suc k) came now) →
    ((more text : List ℕ) (last : A) → P k more between text last → P (suc k) ((came ++ part) ++ more) now (reply ++ text) last) → Leads P n (so_far (read ++ part) first (said ++ reply)) (rest_by k [] between)
leads-next P n k read came part said reply first now between leads step more text last others =
    let whole = leads (part ++ more) (reply ++ text) last (rw (← append_assoc came part more) (step more text last others)) in
    rw (append_assoc read part more, append_assoc said reply text) whole

-- one step and then another
leads-then : {A : Type 0} (P : ℕ → List ℕ → A → List ℕ → A → Type 0) (n k j : ℕ) (read came piece new said text : List ℕ) (first now between : A) →
    Leads P n (so_far read first said) (rest_by k came now) → Leads P k (so_far (came ++ piece) now text) (rest_by j new between) → Leads P n (so_far (read ++ piece) first (said ++ text)) (rest_by j new between)
leads-then P n k j read came piece new said text first now between leads more-leads more t last others =
    let whole = leads (piece ++ more) (text ++ t) last (rw (← append_assoc came piece more) (more-leads more t last others)) in
    rw (append_assoc read piece more, append_assoc said text t) whole

-- one step and then all the text
pub leads-all : {A : Type 0} (P : ℕ → List ℕ → A → List ℕ → A → Type 0) (n k : ℕ) (read came piece said text : List ℕ) (first now last : A) →
    Leads P n (so_far read first said) (rest_by k came now) → ((more : List ℕ) → P k ((came ++ piece) ++ more) now text last) → (more : List ℕ) → P n ((read ++ piece) ++ more) first (said ++ text) last
leads-all P n k read came piece said text first now last leads all more =
    rw (append_assoc read piece more) (leads (piece ++ more) text last (rw (← append_assoc came piece more) (all more)))

pub come-first : {A : Type 0} (answers : A → List ℕ → Said → A → Type 0) (n : ℕ) (came : List ℕ) (first : A) → HasCome answers n (so_far (came ++ []) first []) (rest_by n came first)
come-first answers n came first = record {
  answered = leads-first (IsExchange answers) n came first;
  begun = leads-first (IsBegun answers) n came first;
  wanted = λ more wants. rw (append-nil came) wants;
}

pub come-more : {A : Type 0} (answers : A → List ℕ → Said → A → Type 0) (n k : ℕ) (read came part said : List ℕ) (first now : A) →
    HasCome answers n (so_far read first said) (rest_by k came now) → HasCome answers n (so_far (read ++ part) first said) (rest_by k (came ++ part) now)
come-more answers n k read came part said first now come = record {
  answered = leads-more (IsExchange answers) n k read came part said first now come.answered;
  begun = leads-more (IsBegun answers) n k read came part said first now come.begun;
  wanted = λ more wants. rw (append_assoc read part more) (come.wanted (part ++ more) (rw (← append_assoc came part more) wants));
}

pub come-next : {A : Type 0} (answers : A → List ℕ → Said → A → Type 0) (n k : ℕ) (read came part said reply : List ℕ) (first now between : A) (meaning : Meaning) →
    HasCome answers n (so_far read first said) (rest_by (suc k) came now) → Decides (came ++ part) false meaning → (k == 0) ≡ false → IsReply answers false meaning now reply between →
    HasCome answers n (so_far (read ++ part) first (said ++ reply)) (rest_by k [] between)
come-next answers n k read came part said reply first now between meaning come decides some replies = record {
  answered = leads-next (IsExchange answers) n k read came part said reply first now between come.answered
      (λ more text last others. serve-further answers k (came ++ part) more meaning now between last reply text decides some replies others);
  begun = leads-next (IsBegun answers) n k read came part said reply first now between come.begun
      (λ more text last others. begin-further answers k (came ++ part) more meaning now between last reply text decides some replies others);
  wanted = λ more wants. rw (append_assoc read part more) (come.wanted (part ++ more) (rw (← append_assoc came part more) (want-further k (came ++ part) more meaning decides some wants)));
}

pub come-then : {A : Type 0} (answers : A → List ℕ → Said → A → Type 0) (n k j : ℕ) (read came piece new said text : List ℕ) (first now between : A) →
    HasCome answers n (so_far read first said) (rest_by k came now) → HasCome answers k (so_far (came ++ piece) now text) (rest_by j new between) → HasCome answers n (so_far (read ++ piece) first (said ++ text)) (rest_by j new between)
come-then answers n k j read came piece new said text first now between come other = record {
  answered = leads-then (IsExchange answers) n k j read came piece new said text first now between come.answered other.answered;
  begun = leads-then (IsBegun answers) n k j read came piece new said text first now between come.begun other.begun;
  wanted = λ more wants. rw (append_assoc read piece more) (come.wanted (piece ++ more) (rw (← append_assoc came piece more) (other.wanted more wants)));
}

-- bytes were taken that decide and end the connection: whatever follows them
pub come-last : {A : Type 0} (answers : A → List ℕ → Said → A → Type 0) (n k : ℕ) (read came part said reply : List ℕ) (first now last : A) (closes : Bool) (meaning : Meaning) →
    HasCome answers n (so_far read first said) (rest_by (suc k) came now) → Decides (came ++ part) closes meaning → (closes || (k == 0)) ≡ true → IsReply answers true meaning now reply last →
    (more : List ℕ) → IsExchange answers n ((read ++ part) ++ more) first (said ++ reply) last
come-last answers n k read came part said reply first now last closes meaning come decides ends replies =
    leads-all (IsExchange answers) n (suc k) read came part said reply first now last come.answered (λ more. serve-last answers k (came ++ part) more closes meaning now last reply decides ends replies)

-- the same, begun
pub come-broken : {A : Type 0} (answers : A → List ℕ → Said → A → Type 0) (n k : ℕ) (read came part said reply : List ℕ) (first now last : A) (closes closing : Bool) (meaning : Meaning) →
    HasCome answers n (so_far read first said) (rest_by (suc k) came now) → Decides (came ++ part) closes meaning → closing ≡ (closes || (k == 0)) → IsReply answers closing meaning now reply last →
    (more : List ℕ) → IsBegun answers n ((read ++ part) ++ more) first (said ++ reply) last
come-broken answers n k read came part said reply first now last closes true meaning come decides e replies =
    leads-all (IsBegun answers) n (suc k) read came part said reply first now last come.begun (λ more. begin-last answers k (came ++ part) more closes meaning now last reply decides (sym e) replies)
come-broken answers n k read came part said reply first now last true false meaning come decides e replies = absurd (cc)
come-broken answers n k read came part said reply first now last false false meaning come decides e replies =
    leads-all (IsBegun answers) n (suc k) read came part said reply first now last come.begun
    (λ more. subst (λ (l : List ℕ). IsBegun answers (suc k) ((came ++ part) ++ more) now l last) (append-nil reply)
    (begin-further answers k (came ++ part) more meaning now last last reply [] decides (sym e) replies (begun-nothing answers k more last)))
