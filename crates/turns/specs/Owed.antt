-- How many bytes of responses are to be sent to the connections of a worker (docs/WMS.md, "HTTP").
use Rattle.std.specs.Prelude.{ℕ, List, Option, None, Some}
use Rattle.std.specs.List.{sum_by}
use Rattle.turns.specs.Connection.{owed_by}
use Rattle.turns.specs.declared.open_connection.OpenConnection.{OpenConnection}

-- how many bytes are to be sent to the connection at a slot
abbrev pub owed_at : {T : Type 0} → Option (OpenConnection T) → ℕ
owed_at None = 0
owed_at (Some connection) = owed_by connection

-- how many bytes are to be sent in all
abbrev pub owed_in_all : {T : Type 0} → List (Option (OpenConnection T)) → ℕ
owed_in_all slots = sum_by owed_at slots
