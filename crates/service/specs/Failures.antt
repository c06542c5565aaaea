-- Why a service doesn't begin, or ends early (docs/SERVICE.md, "The program").
use Rattle.std.specs.Prelude.{Bool, true, false, Ok, Err}
use Rattle.console.specs.Console.{Outcome}
use Rattle.console.specs.declared.failure.Failure.{Failure}
use Rattle.console.specs.declared.failure.Failure.TheVariants.{SocketFailed, WatchFailed, JournalFailed, NoMemory}

-- what a service lacks that doesn't begin: a port gives no address or no connections, a thread can't be started, or memory was refused
abbrev pub is_resource_failure : Failure → Bool
is_resource_failure SocketFailed = true
is_resource_failure NoMemory = true
is_resource_failure failure = false

-- why a service ended early that had begun: it lacks one of these, or the input with whose end it ends, or the keeper of batches failed
abbrev pub is_service_failure : Failure → Bool
is_service_failure WatchFailed = true
is_service_failure JournalFailed = true
is_service_failure failure = is_resource_failure failure

-- an outcome is that something is lacking
abbrev pub lacks_resources : Outcome → Bool
lacks_resources (Ok done) = false
lacks_resources (Err failure) = is_resource_failure failure
