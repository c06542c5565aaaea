use Rattle.std.proofs.Common.{◌≡◌, ◌+◌, drop}
use Rattle.std.specs.Prelude.{option_map}
use Rattle.std.specs.Option.{option_or}
use Rattle.mapparse.specs.Symbols.{last_named}
use Rattle.mapparse.proofs.symbol.last_named.Given as goal

-- the last one that is left, else the last one so far, is the last of all
abbrev pub invariant-loop-index : goal.invariant-loop-index
invariant-loop-index l =
    option_or (option_map (λ k. l.index + k) (last_named l.name (drop l.index l.symbols))) l.found ≡ last_named l.name l.symbols
