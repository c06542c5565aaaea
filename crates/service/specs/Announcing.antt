-- How a service announces its ports, and goes on after that (docs/SERVICE.md, "The program").
use Rattle.std.specs.Prelude.{◌≡◌, ◌⊎◌, ◌++◌, ℕ, true, List, Option, IfSome, Ok, Err, MatchResult, codes}
use Rattle.console.specs.Console.{Outcome, WriterState, IsWritten}
use Rattle.service.specs.Failures.{is_service_failure, lacks_resources}

-- the line with the addresses of the ports of a service, that of clients first
abbrev pub addresses_line : List ℕ → List ℕ → List ℕ
addresses_line clients administration = codes "listening " ++ (clients ++ (codes " " ++ (administration ++ codes "\n")))

-- two addresses are those of two ports, where these are known
abbrev pub AreAddresses : Option (List ℕ) → Option (List ℕ) → List ℕ → List ℕ → Type 0
AreAddresses clients administration first second = IfSome clients (λ known. first ≡ known) × IfSome administration (λ known. second ≡ known)

-- that line was written to the output, with the addresses of both ports
abbrev pub HasWrittenAddresses : Outcome → Option (List ℕ) → Option (List ℕ) → WriterState → WriterState → Type 0
HasWrittenAddresses outcome clients administration old new =
    (first second : List ℕ) × AreAddresses clients administration first second × IsWritten outcome old new (addresses_line first second)

-- nothing was written, because a port's address, a port, a thread or memory is missing
abbrev pub IsUnserved : Outcome → WriterState → WriterState → Type 0
IsUnserved outcome old new = (lacks_resources outcome ≡ true) × (new ≡ old)

-- how it ended after the addresses were written: well, or because a port, a thread or memory is missing, its input failed, or the keeper of batches;
-- never because of the mapfile, an argument, or a port that can't be listened on. Where writing the addresses failed, it ended with that failure
abbrev pub GoesOnAfter : Outcome → Outcome → Type 0
GoesOnAfter (Ok done) outcome = MatchResult outcome (λ _. Unit {0}) (λ failure. is_service_failure failure ≡ true)
GoesOnAfter (Err failure) outcome = outcome ≡ Err failure

-- the addresses of the two ports of a service were written once, and it went on after that; or it failed before
abbrev pub HasAnnounced : Option (List ℕ) → Option (List ℕ) → Outcome → WriterState → WriterState → Type 0
HasAnnounced clients administration outcome old new =
    IsUnserved outcome old new ⊎ ((said : Outcome) × HasWrittenAddresses said clients administration old new × GoesOnAfter said outcome)
