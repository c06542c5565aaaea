-- How a connection is closed (docs/WMS.md, "HTTP").
use Rattle.std.specs.Prelude.{◌≡◌, ◌⊎◌, ℕ, ◌≤◌, Bool, true, List, length, Option}
use Rattle.std.specs.Io.KnownBytes.{Consumes, IsAtEnd}

-- bytes of a client were read and dropped, 1 MiB at most: up to their end, up to that limit, or until the reader failed
pub record HasDrained (before after : Option (List ℕ)) (failed : Bool) : Type 0 where
  pub bytes : List ℕ
  pub consumed : Consumes before after bytes
  pub limit : length bytes ≤ 1048576
  pub all : IsAtEnd after ⊎ (length bytes ≡ 1048576) ⊎ (failed ≡ true)
