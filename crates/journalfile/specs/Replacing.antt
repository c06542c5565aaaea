-- A log whose place another one didn't take (docs/SERVICE.md, "Journal").
use Rattle.std.specs.Prelude.{◌≡◌, ℕ, List}
use Rattle.journalfile.specs.Log.{NoOther}
use Rattle.journalfile.specs.declared.replaceable.ReplaceFault.{ReplaceFault}
use Rattle.journalfile.specs.declared.replaceable.ReplaceFault.TheVariants as fault

-- where nothing was replaced, the log has the bytes that it had, and a crash leaves no others than before
abbrev pub IsUnreplaced : {F : Type 0} → List ℕ → List ℕ → (List ℕ → Type 0) → (List ℕ → Type 0) → ReplaceFault F → Type 0
IsUnreplaced old new before after (fault.NotReplaced failure) = (new ≡ old) × NoOther before after
IsUnreplaced old new before after (fault.Failed failure) = Unit {0}
