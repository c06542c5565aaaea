-- The first command in the bytes of a client.
use Rattle.std.proofs.Common.{MatchOption, IfSome, ◌≡◌, ℕ, zero, suc, ◌+◌, ◌-◌, ◌<◌, ◌≤◌, Bool, true, false, List, [], ◌∷◌, ◌++◌, length, take, drop, Option, None, Some, nat_le, nat_lt, refl, arith, take_all, append_assoc, length-append, length-drop, ap, sym, ◌∙◌}
use Rattle.std.proofs.Math.Seq.{drop-append_seam, take-append-add, take-append_seam}
use Rattle.std.proofs.lemmas.Bool.Decides.{nat_tests}
use Rattle.std.proofs.lemmas.List.Folds.{list_any-append}
use Rattle.std.proofs.Common.{Vec, Global}
use Rattle.std.proofs.KnownBytes.{Consumes-trans}
use Rattle.std.specs.Io.KnownBytes.{Consumes}
use Rattle.std.specs.List.{list_any, position_or_len}
use Rattle.batches.specs.Command.{is_line_end}
use Rattle.batches.proofs.Cutting.{after-cut}
use Rattle.batches.proofs.Writing.{cut-after, cut-before}
use Rattle.administration.specs.Commands.{Submit, first_command, line_of}
use Rattle.administration.specs.Reading.{HasEnded, IsCommandOf, IsLineOf}
use Rattle.administration.specs.declared.line.ClientLine.TheVariants as line

-- an LF is among the first bytes of a line that is no longer than the limit
ends-early : (text more : List ℕ) → list_any is_line_end text ≡ false → length text < 33 → list_any is_line_end (take 33 (text ++ 10 ∷ more)) ≡ true
ends-early text more none short = go (32 - length text) (omega (arith, short))
  where
    go : (k : ℕ) → 33 ≡ length text + suc k → list_any is_line_end (take 33 (text ++ 10 ∷ more)) ≡ true
    go k e = rw (e, take-append-add text (10 ∷ more) (suc k), list_any-append is_line_end text (10 ∷ take k more), none) refl

-- a line is read up to its LF
pub line-ends : (text : List ℕ) → list_any is_line_end text ≡ false → length text < 33 → IsLineOf (text ++ 10 ∷ []) (line_of text)
unfolding first_command
line-ends text none short more =
    rw (append_assoc text (10 ∷ []) more, ends-early text more none short, cut-before is_line_end text 10 more none refl, cut-after is_line_end text 10 more none refl) refl

-- 33 bytes without an LF are malformed
pub line-is-long : (text : List ℕ) → list_any is_line_end text ≡ false → length text ≡ 33 → IsLineOf text line.Malformed
unfolding first_command
line-is-long text none long more =
    let first : take 33 (text ++ more) ≡ text = rw (← long) (take-append_seam text more) in
    let rest : drop 33 (text ++ more) ≡ more = rw (← long) (drop-append_seam text more) in
    let enough : nat_le 33 (length (text ++ more)) ≡ true = grind (arith, nat_tests, length-append text more, long) in
    rw (first, none, enough, rest) refl

-- fewer without an LF are no command yet
pub line-is-short : (text : List ℕ) → list_any is_line_end text ≡ false → length text < 33 → first_command text ≡ None
unfolding first_command
line-is-short text none short =
    let all : take 33 text ≡ text = take_all 33 text (omega (arith, short)) in
    let less : nat_le 33 (length text) ≡ false = grind (arith, nat_tests, short) in
    rw (all, none, less) refl

-- a line and the bytes of its batch are its command
pub batch-ends : (text bytes : List ℕ) (count : ℕ) → IsLineOf text (line.Batch count) → length bytes ≡ count → IsCommandOf (text ++ bytes) (Submit bytes)
batch-ends text bytes count is long more =
    let enough : nat_lt (length (bytes ++ more)) (length bytes) ≡ false = grind (arith, nat_tests, length-append bytes more) in
    rw (append_assoc text bytes more, is (bytes ++ more), ← long, enough, take-append_seam bytes more, drop-append_seam bytes more) refl

-- with fewer bytes it isn't whole
pub batch-is-short : (text bytes : List ℕ) (count : ℕ) → IsLineOf text (line.Batch count) → length bytes < count → first_command (text ++ bytes) ≡ None
batch-is-short text bytes count is short =
    let less : nat_lt (length bytes) count ≡ true = grind (arith, nat_tests, short) in
    rw (is bytes, less) refl

-- where there is no value
pub at-none : {X : Type 0} (o : Option X) (P : Type 0) (Q : X → Type 0) → o ≡ None → P → MatchOption o P Q
at-none None P Q is p = p
at-none (Some x) P Q is p = absurd (cc)

-- a fact about a value that may be missing gives the facts that follow from it
pub match-so : {X : Type 0} (o : Option X) (P P' : Type 0) (Q Q' : X → Type 0) → (P → P') → ((x : X) → Q x → Q' x) → MatchOption o P Q → MatchOption o P' Q'
match-so None P P' Q Q' f g m = f m
match-so (Some x) P P' Q Q' f g m = g x m

-- the client ended later
pub ended-after : (a b c : Option (List ℕ)) (failed : Bool) (bytes piece : List ℕ) → Consumes a b bytes → HasEnded b c failed piece → HasEnded a c failed (bytes ++ piece)
ended-after a b c failed bytes piece came ended = record { read = Consumes-trans a b c bytes piece came ended.read; end = ended.end }

-- one more piece is held, if anything is
pub held-on : (old new : Option (Vec ℕ Global)) (bytes piece : List ℕ) → MatchOption old (new ≡ None) (λ held. IfSome new (λ more. more.items ≡ held.items ++ piece)) → IfSome old (λ held. held.items ≡ bytes) →
    IfSome new (λ more. more.items ≡ bytes ++ piece)
held-on None new bytes piece m held = rw m tt
held-on (Some v) None bytes piece m held = tt
held-on (Some v) (Some w) bytes piece m held = rw (← held) m

-- an LF that comes early is among the first bytes
early : (bytes : List ℕ) (n : ℕ) → position_or_len is_line_end bytes < length bytes → position_or_len is_line_end bytes < n → list_any is_line_end (take n bytes) ≡ true
early [] n within less = absurd (omega (arith, within))
early (byte ∷ bytes) zero within less = absurd (omega (arith, less))
early (byte ∷ bytes) (suc n) within less = by (is_line_end byte) refl (λ e. early bytes n (omega (arith, rw e at within)) (omega (arith, rw e at less)))
  where
    by : (b : Bool) → is_line_end byte ≡ b → (is_line_end byte ≡ false → list_any is_line_end (take n bytes) ≡ true) → list_any is_line_end (byte ∷ take n bytes) ≡ true
    by true e others = rw e refl
    by false e others = rw e (others e)

-- a line that ends early, and as many bytes after it as it announces, are a command
pub starts-batch : (bytes rest after : List ℕ) (end count : ℕ) → end ≡ position_or_len is_line_end bytes → rest ≡ drop end bytes → 1 ≤ length rest → after ≡ take (length rest - 1) (drop 1 rest) → end < 33
    → line.Batch count ≡ line_of (take end bytes) → count ≤ length after → first_command bytes ≡ Some (Submit (take count after), drop count after)
unfolding first_command
starts-batch bytes rest after end count is back some then short says fits =
    let there : position_or_len is_line_end bytes < length bytes = omega (arith, is, length-drop end bytes, ap length back, some) in
    let soon : list_any is_line_end (take 33 bytes) ≡ true = early bytes 33 there (omega (arith, is, short)) in
    let next : after ≡ drop (end + 1) bytes = then ∙ (after-cut is_line_end bytes rest end is back ∙ ap (λ (n : ℕ). drop (n + 1) bytes) (sym is)) in
    let enough : nat_lt (length after) count ≡ false = grind (arith, nat_tests, fits) in
    rw (soon, ← is, ← says, ← next, enough) refl
