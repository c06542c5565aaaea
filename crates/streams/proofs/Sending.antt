-- Texts that go out one after the other.
use Rattle.std.proofs.Common.{◌≡◌, ℕ, ◌+◌, List, [], ◌++◌, Option, Result, Ok, Err, OnErr, length, take, arith, length-append}
use Rattle.std.proofs.KnownBytes.{Appends-nil, Appends-trans}
use Rattle.std.proofs.lemmas.List.{take-append-le}
use Rattle.std.proofs.Math.Seq.{take-append-add}
use Rattle.streams.specs.Sent.{IsSent, IsCut, IsCutSomewhere}

-- nothing went out of the empty text
pub nothing-sent : {S : Type 0} (held : S → Option (List ℕ)) (taken : S → ℕ) (a : S) → IsSent held taken a [] a
nothing-sent held taken a = record { bytes = Appends-nil (held a); count = omega arith }

-- a text and then another went out: both did
pub sent-sent : {S : Type 0} (held : S → Option (List ℕ)) (taken : S → ℕ) (a b c : S) (s t : List ℕ) → IsSent held taken a s b → IsSent held taken b t c → IsSent held taken a (s ++ t) c
sent-sent held taken a b c s t first second = record {
  bytes = Appends-trans (held a) (held b) (held c) s t first.bytes second.bytes;
  count = omega (arith, first.count, second.count, length-append s t);
}

-- a prefix of a text is a prefix of that and another
pub cut-more : {S : Type 0} (held : S → Option (List ℕ)) (taken : S → ℕ) (a b : S) (s t : List ℕ) → IsCutSomewhere held taken a s b → IsCutSomewhere held taken a (s ++ t) b
cut-more held taken a b s t (n, cut) = (
  n,
  record {
    short = omega (arith, cut.short, length-append s t);
    bytes = rw (take-append-le n s t (omega (arith, cut.short))) cut.bytes;
    count = cut.count;
  },
)

-- a text and then a prefix of another went out: a prefix of both did
pub sent-cut : {S : Type 0} (held : S → Option (List ℕ)) (taken : S → ℕ) (a b c : S) (s t : List ℕ) → IsSent held taken a s b → IsCutSomewhere held taken b t c → IsCutSomewhere held taken a (s ++ t) c
sent-cut held taken a b c s t sent (n, cut) = (
  length s + n,
  record {
    short = omega (arith, cut.short, length-append s t);
    bytes = rw (take-append-add s t n) (Appends-trans (held a) (held b) (held c) s (take n t) sent.bytes cut.bytes);
    count = omega (arith, sent.count, cut.count);
  },
)

-- the count says where a text was cut
pub cut-at : {S : Type 0} (held : S → Option (List ℕ)) (taken : S → ℕ) (a b : S) (s : List ℕ) (written : ℕ) → taken b ≡ taken a + written → IsCutSomewhere held taken a s b → IsCut held taken a s written b
cut-at held taken a b s written count (n, cut) =
    let same : n ≡ written = omega (arith, count, cut.count) in
    rw (← same) cut

-- what holds anyway holds at an error
pub on-err : {T E : Type 0} (r : Result T E) (P : Type 0) → P → OnErr r P
on-err (Ok x) P p = tt
on-err (Err e) P p = p
