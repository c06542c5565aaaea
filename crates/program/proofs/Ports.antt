-- Which port a failure names.
use Rattle.std.proofs.Common.{◌≡◌, ◌⊎◌, ⊎_elim, inl, inr, refl, subst, sym, ℕ, true}
use Rattle.console.specs.declared.failure.Failure.{Failure}
use Rattle.console.specs.declared.failure.ListenCause.{ListenCause}
use Rattle.console.specs.declared.failure.Failure.TheVariants.{MapfileFault, FileFailed, ArgumentsRefused, InputFailed, OutputFailed, ListenFailed, SocketFailed, WatchFailed, JournalFault, JournalFailed, NoMemory}
use Rattle.service.specs.Failures.{is_resource_failure}
use Rattle.subcommands.specs.Mapfiles.{TouchesNeither}
use Rattle.program.specs.Performing.{NamesPort}

-- a port that is one of some is one of more
pub names-more : (some more : ℕ → ListenCause → Type 0) → ((port : ℕ) (cause : ListenCause) → some port cause → more port cause) → (failure : Failure) → NamesPort some failure → NamesPort more failure
names-more some more in_more failure named =
    ⊎_elim (λ lacks. inl lacks) (λ port. inr (port.0, port.1, port.2, in_more port.0 port.1 port.3)) named

-- neither the input nor the output failed where a resource is missing
lacks-neither : (failure : Failure) → is_resource_failure failure ≡ true → TouchesNeither failure
lacks-neither SocketFailed lacks = record { input = refl; output = refl }
lacks-neither NoMemory lacks = record { input = refl; output = refl }
lacks-neither (ListenFailed port cause) lacks = absurd (cc lacks)
lacks-neither MapfileFault lacks = absurd (cc lacks)
lacks-neither FileFailed lacks = absurd (cc lacks)
lacks-neither ArgumentsRefused lacks = absurd (cc lacks)
lacks-neither InputFailed lacks = absurd (cc lacks)
lacks-neither OutputFailed lacks = absurd (cc lacks)
lacks-neither WatchFailed lacks = absurd (cc lacks)
lacks-neither JournalFault lacks = absurd (cc lacks)
lacks-neither JournalFailed lacks = absurd (cc lacks)

-- nor where a port can't be listened on
pub names-neither : (these : ℕ → ListenCause → Type 0) (failure : Failure) → NamesPort these failure → TouchesNeither failure
names-neither these failure named =
    ⊎_elim (lacks-neither failure) (λ port. subst TouchesNeither (sym port.2) (record { input = refl; output = refl })) named
