-- What follows on a call for a connection of a client (docs/SERVICE.md, "The program").
use Rattle.std.specs.Prelude.{◌≡◌, ℕ, ◌+◌, ◌-◌, ◌^◌, min, nat_le, Option, None, Some, Result, Ok, Err}
use Rattle.network.specs.declared.acceptor.Acceptor.{Acceptor}
use Rattle.network.specs.declared.acceptor.Plan.{Plan}
use Rattle.network.specs.declared.acceptor.Plan.TheVariants as plan
use Rattle.network.specs.declared.port.AcceptFailed.{AcceptFailed}

-- a connection that came is handed over under the next number, and no failure counts any more. After a call that failed a connection is to be evicted,
-- and the hundredth failure one after the other is the last. After the last connection that is requested all ends, and where no call was made nothing
-- changes
abbrev pub Follows : {C : Type 0} → Acceptor → Option (Result (Option C) AcceptFailed) → Plan C → Acceptor → Type 0
Follows old None next new = (next ≡ plan.Wait) × (new ≡ old)
Follows old (Some (Ok None)) next new = (next ≡ plan.End) × (new ≡ old)
Follows old (Some (Ok (Some connection))) next new = (next ≡ plan.HandOver connection new.count) × (new.count ≡ min (old.count + 1) (2 ^ 64 - 1)) × (new.failures ≡ 0)
Follows old (Some (Err failed)) next new =
    (next ≡ plan.Evict (record { is_last = nat_le 100 new.failures })) × (new.failures ≡ min (old.failures + 1) (2 ^ 32 - 1)) × (new.count ≡ old.count)
