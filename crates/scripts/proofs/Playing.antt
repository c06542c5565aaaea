-- Playing a readable script: the part played so far, and the end.
use Rattle.std.proofs.Common.{MatchOption, ◌≡◌, ℕ, List, [], ◌∷◌, ◌++◌, Option, None, Some, Result, Ok, Err, ◌-◌, refl, sym, ap, subst, append-nil, arith}
use Rattle.std.proofs.lemmas.Grind.{flat_map-append}
use Rattle.batches.specs.Batch.{State}
use Rattle.mapmachine.specs.Machine.{Steps, Runs}
use Rattle.mapmachine.specs.declared.reply.Event.{Event}
use Rattle.mapmachine.specs.declared.reply.Reply.{Reply}
use Rattle.scripts.specs.Script.{script_of, fault_of}
use Rattle.streams.specs.Sent.{IsSent, IsCut, IsCutSomewhere}
use Rattle.streams.proofs.Sending.{sent-sent, sent-cut}
use Rattle.scripts.specs.Sent.{IsPartlyReplied}
use Rattle.scripts.specs.Playing.{IsTranscript, IsSessionOf, IsPlayed, IsRefused, HasPlayed, HasStopped, HasPartlyRefused, HasStoppedIn, HasPartlyPlayed}
use Rattle.scripts.specs.Transcript.{reply_text, transcript, script_fault}

-- a script without fault has events
pub readable : (read : Result (List Event) ℕ) → fault_of read ≡ None → (events : List Event) × (read ≡ Ok events)
readable (Ok events) e = (events, refl)
readable (Err n) e = cc

-- a run and then a step are a run
pub run-then : (a b c : State) (events : List Event) (replies : List Reply) (event : Event) (reply : Reply) → Runs a events replies b → Steps b event reply c →
    Runs a (events ++ event ∷ []) (replies ++ reply ∷ []) c
run-then a b c [] [] event reply is step = (c, rw (← is) step, refl)
run-then a b c (e ∷ events) (r ∷ replies) event reply (next, first, rest) step = (next, first, run-then next b c events replies event reply rest step)
run-then a b c [] (r ∷ replies) event reply none step = absurd none
run-then a b c (e ∷ events) [] event reply none step = absurd none

-- a script of some events has this transcript
pub is-transcript : (old new : State) (script : List ℕ) (events : List Event) (replies : List Reply) → script_of script ≡ Ok events → Runs old events replies new →
    IsTranscript old script new (transcript replies)
is-transcript old new script events replies all run =
    let played : IsPlayed old events new (transcript replies) = record { replies = replies; run = run; written = refl } in
    subst (λ (read : Result (List Event) ℕ). IsSessionOf old read new (transcript replies)) (sym all) played

-- all of it was sent
pub has-played : {S : Type 0} (held : S → Option (List ℕ)) (taken : S → ℕ) (old new : State) (script : List ℕ) (events : List Event) (replies : List Reply) (a b : S) →
    script_of script ≡ Ok events → Runs old events replies new → IsSent held taken a (transcript replies) b → HasPlayed old script new (held a) (held b)
has-played held taken old new script events replies a b all run sent = record {
  text = transcript replies;
  transcript = is-transcript old new script events replies all run;
  bytes = sent.bytes;
}

-- the replies to some events are written as those to all but the last, and then that one
pub one-more : (replies : List Reply) (reply : Reply) → transcript (replies ++ reply ∷ []) ≡ transcript replies ++ reply_text reply
one-more replies reply = rw (flat_map-append reply_text replies (reply ∷ []), append-nil (reply_text reply)) refl

-- the replies to the events so far were sent, and then a prefix of the reply to the next event
pub has-stopped : {S : Type 0} (held : S → Option (List ℕ)) (taken : S → ℕ) (old between new : State) (script : List ℕ) (done left others : List Event) (event : Event) (replies : List Reply) (a b c : S) →
    script_of script ≡ Ok (done ++ left) → left ≡ event ∷ others → Runs old done replies between →
    IsSent held taken a (transcript replies) b → IsPartlyReplied between event new held taken b c → HasPartlyPlayed old script new (held a) (held c) (taken c - taken a)
has-stopped held taken old between new script done left others event replies a b c all is run sent partly =
    let text : transcript (replies ++ partly.reply ∷ []) ≡ transcript replies ++ reply_text partly.reply = one-more replies partly.reply in
    let (part, p) : IsCutSomewhere held taken a (transcript (replies ++ partly.reply ∷ [])) c =
    rw text (sent-cut held taken a b c (transcript replies) (reply_text partly.reply) sent partly.cut) in
    let count : taken c - taken a ≡ part = omega (arith, p.count) in
    let stopped : HasStopped old (done ++ left) new (held a) (held c) (taken c - taken a) = record {
      done = done;
      event = event;
      left = others;
      parts = ap (λ events. done ++ events) is;
      replies = replies;
      reply = partly.reply;
      run = run-then old between new done replies event partly.reply run partly.step;
      reached = omega (arith, sent.count, partly.cut.1.count);
      short = omega (arith, count, p.short);
      bytes = rw count p.bytes;
    } in
    subst (λ (read : Result (List Event) ℕ). HasStoppedIn old read new (held a) (held c) (taken c - taken a)) (sym all) stopped

-- a reply after others was sent
pub sent-reply : {S : Type 0} (held : S → Option (List ℕ)) (taken : S → ℕ) (a b c : S) (replies : List Reply) (reply : Reply) →
    IsSent held taken a (transcript replies) b → IsSent held taken b (reply_text reply) c → IsSent held taken a (transcript (replies ++ reply ∷ [])) c
sent-reply held taken a b c replies reply first second =
    rw (one-more replies reply) (sent-sent held taken a b c (transcript replies) (reply_text reply) first second)

-- the fact that holds where there was no value
pub at-none : {X : Type 0} (o : Option X) (P : Type 0) (Q : X → Type 0) → MatchOption o P Q → ((x : X) → o ≡ Some x → ⊥) → P
at-none None P Q m other = m
at-none (Some x) P Q m other = absurd (other x refl)

-- a fault is that of an unreadable script
pub refused : (read : Result (List Event) ℕ) (number : ℕ) → Some number ≡ fault_of read → read ≡ Err number
refused (Ok events) number e = cc
refused (Err n) number e = cc
