-- What the end of a stream, or of an exchange, says of the whole stream.
use Rattle.std.proofs.Common.{◌≡◌, ℕ, suc, List, [], ◌∷◌, ◌++◌, ◌==◌, ◌+◌, inr, Bool, true, Option, None, Some, IfSome, length, refl, sym, subst, append-nil}
use Rattle.std.specs.Io.KnownBytes.{Consumes, IsAtEnd}
use Rattle.std.proofs.KnownBytes.{Consumes-whole}
use Rattle.streams.specs.Sent.{IsSent, IsCutSomewhere}
use Rattle.streams.proofs.Sending.{cut-at}
use Rattle.httpedge.specs.Connection.{Progress, Open, Decided, LeavesOpen, Ends, ended, step_of, target_of, ends_by}
use Rattle.httpedge.specs.Exchange.{Said, IsReply, IsExchange, IsBegun}
use Rattle.httpedge.specs.Meaning.{meaning_of, decision_meaning}
use Rattle.httpedge.specs.Serving.{IsOpen, HasCome, came_of}
use Rattle.httpedge.specs.Stopped.{Effect, HasExchanged, HasPaused, HasBroken, HasStopped}
use Rattle.streams.specs.declared.sink.Sink.{Ghosts as Sink}
use Rattle.httpedge.specs.declared.conn.TheConstants.{REQUESTS}
use Rattle.httpedge.specs.declared.edge.EdgeFault.TheVariants.{Read, Write}
use Rattle.httpedge.specs.Turn.{IsTurn, Last}
use Rattle.httpedge.specs.declared.decision.Decision.{Decision}
use Rattle.httpedge.proofs.Serving.{begun-nothing, so_far, rest_by}

-- nothing came
pub end-nothing : {A : Type 0} (answers : A → List ℕ → Said → A → Type 0) (n : ℕ) (p q : Progress) (now : A) → IsOpen p → Ends p q → step_of q ≡ None → IsExchange answers (suc n) (came_of p) now [] now
unfolding IsExchange
end-nothing answers n (Open came) q now opened ends none =
    (Last (meaning_of None (target_of q)), subst (λ (o : Option Decision). IsTurn (n == 0) came (Last (meaning_of o (target_of q)))) none (ends.0 (n == 0)), (refl, refl))
end-nothing answers n (Decided closes decided target) q now opened ends none = absurd opened

-- what is decided at the end ends the connection
end-closes : (came : List ℕ) (q : Progress) (d : Decision) (is-last : Bool) → q ≡ ended (Open came) → step_of q ≡ Some d → ends_by is-last q ≡ true
end-closes [] q d is-last e some = absurd (cc)
end-closes (byte ∷ bytes) q d is-last e some = rw e refl

-- bytes without a head came
pub end-replied : {A : Type 0} (answers : A → List ℕ → Said → A → Type 0) (n : ℕ) (p q : Progress) (d : Decision) (is-last : Bool) (now last : A) (text : List ℕ) → IsOpen p → Ends p q → step_of q ≡ Some d →
    IsReply answers (ends_by is-last q) (decision_meaning d (target_of q)) now text last → IsExchange answers (suc n) (came_of p) now text last × IsBegun answers (suc n) (came_of p) now text last
unfolding IsExchange IsBegun
end-replied answers n (Open came) q d is-last now last text opened ends some reply =
    let turn : IsTurn (n == 0) came (Last (decision_meaning d (target_of q))) = subst (λ (o : Option Decision). IsTurn (n == 0) came (Last (meaning_of o (target_of q)))) some (ends.0 (n == 0)) in
    let r : IsReply answers true (decision_meaning d (target_of q)) now text last = subst (λ (b : Bool). IsReply answers b (decision_meaning d (target_of q)) now text last) (end-closes came q d is-last ends.1 some) reply in
    ((Last (decision_meaning d (target_of q)), turn, r), inr (Last (decision_meaning d (target_of q)), turn, r))
end-replied answers n (Decided closes decided target) q d is-last now last text opened ends some reply = absurd opened

-- a property that holds whatever follows the bytes read holds of the stream
pub whatever-follows : (a b : Option (List ℕ)) (bytes : List ℕ) (P : List ℕ → Type 0) → Consumes a b bytes → ((more : List ℕ) → P (bytes ++ more)) → IfSome a P
whatever-follows None b bytes P read all = tt
whatever-follows (Some x) None bytes P read all = absurd read
whatever-follows (Some x) (Some y) bytes P read all = subst P (sym read) (all y)

-- the text sent so far was begun, whatever follows
pub come-begun : {A : Type 0} (answers : A → List ℕ → Said → A → Type 0) (n k : ℕ) (read came said : List ℕ) (first now : A) → HasCome answers n (so_far read first said) (rest_by k came now) →
    (more : List ℕ) → IsBegun answers n (read ++ more) first said now
come-begun answers n k read came said first now come more =
    subst (λ (l : List ℕ). IsBegun answers n (read ++ more) first l now) (append-nil said) (come.begun more [] now (begun-nothing answers k (came ++ more) now))

-- the text sent so far, and the answer to the end, are all
pub come-ended : {A : Type 0} (P : ℕ → List ℕ → A → List ℕ → A → Type 0) (n k : ℕ) (read came said text : List ℕ) (first now last : A) →
    ((more other : List ℕ) (end : A) → P k (came ++ more) now other end → P n (read ++ more) first (said ++ other) end) → P k came now text last → P n read first (said ++ text) last
come-ended P n k read came said text first now last leads ends =
    subst (λ (l : List ℕ). P n l first (said ++ text) last) (append-nil read) (leads [] text last (subst (λ (l : List ℕ). P k l now text last) (sym (append-nil came)) ends))

pub opened-leaves : (p : Progress) → IsOpen p → LeavesOpen (came_of p)
opened-leaves (Open came) opened = opened
opened-leaves (Decided closes decided target) opened = absurd opened

module _ {A S : Type 0} (answers : A → List ℕ → Said → A → Type 0) (known : Sink S) (effect : Effect A S) where
  -- the reader failed: the text sent so far was written
  pub read-stopped : (a b : Option (List ℕ)) (read came text : List ℕ) (k written : ℕ) → Consumes a b read → HasCome answers REQUESTS (so_far read effect.asker text) (rest_by k came effect.asks)
      → IsSent known.held known.taken effect.before text effect.after → written ≡ length text → IfSome a (λ stream. HasStopped (Read written) answers known stream effect)
  read-stopped a b read came text k written consumed come sent count =
      whatever-follows a b read (λ stream. HasPaused answers known stream effect written) consumed
      (λ more. record { text = text; begun = come-begun answers REQUESTS k read came text effect.asker effect.asks come more; sent = sent; count = count })

  -- the writer failed in the answers to a piece
  pub piece-stopped : (a b : Option (List ℕ)) (read text : List ℕ) (written : ℕ) → Consumes a b read → ((more : List ℕ) → IsBegun answers REQUESTS (read ++ more) effect.asker text effect.asks)
      → IsCutSomewhere known.held known.taken effect.before text effect.after → known.taken effect.after ≡ known.taken effect.before + written
      → IfSome a (λ stream. HasStopped (Write written) answers known stream effect)
  piece-stopped a b read text written consumed begun cut count =
      whatever-follows a b read (λ stream. HasBroken answers known stream effect written) consumed
      (λ more. record { text = text; begun = begun more; cut = cut-at known.held known.taken effect.before effect.after text written count cut })

  -- or in the answer to the end
  pub end-stopped : (a b : Option (List ℕ)) (read text : List ℕ) (written : ℕ) → Consumes a b read → IsAtEnd b → IsBegun answers REQUESTS read effect.asker text effect.asks
      → IsCutSomewhere known.held known.taken effect.before text effect.after → known.taken effect.after ≡ known.taken effect.before + written
      → IfSome a (λ stream. HasStopped (Write written) answers known stream effect)
  end-stopped a b read text written consumed end begun cut count =
      Consumes-whole a b read (λ stream. HasBroken answers known stream effect written) consumed end
      (record { text = text; begun = begun; cut = cut-at known.held known.taken effect.before effect.after text written count cut })

  -- a head ended the connection: all was sent
  pub piece-exchanged : (a b : Option (List ℕ)) (read text : List ℕ) → Consumes a b read → ((more : List ℕ) → IsExchange answers REQUESTS (read ++ more) effect.asker text effect.asks)
      → IsSent known.held known.taken effect.before text effect.after → IfSome a (λ stream. HasExchanged answers known stream effect)
  piece-exchanged a b read text consumed all sent =
      whatever-follows a b read (λ stream. HasExchanged answers known stream effect) consumed (λ more. record { text = text; exchange = all more; sent = sent })
