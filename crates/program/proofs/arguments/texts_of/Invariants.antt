use Rattle.std.proofs.Common.{◌≡◌, map, take}
use Rattle.std.specs.Prelude.{string_bytes}
use Rattle.program.proofs.arguments.texts_of.Given as goal

-- the texts are those of the arguments so far
abbrev pub invariant-loop-argument : goal.invariant-loop-argument
invariant-loop-argument l = map (λ text. text.now) l.texts.items ≡ map string_bytes (take l.argument-index l.arguments)
