use Rattle.std.proofs.Common.{◌≡◌, ◌++◌, take, drop}
use Rattle.mapparse.specs.Files.{with_file}
use Rattle.mapparse.proofs.files.Files.add.Given as goal

-- the files so far stay, and one of those that are left is replaced, or one is added
abbrev pub invariant-loop-index : goal.invariant-loop-index
invariant-loop-index l = record {
  same : l.self-inside.files.items ≡ l.fn.self;
  rest : take l.index l.fn.self ++ with_file l.fn.name l.bytes (drop l.index l.fn.self) ≡ with_file l.fn.name l.bytes l.fn.self;
}
