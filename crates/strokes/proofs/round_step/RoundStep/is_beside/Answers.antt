use Rattle.std.proofs.Common.{◌^◌, arith}
use Rattle.scanfill.proofs.Words.{wide-held, word-held}
use Rattle.strokes.proofs.round_step.RoundStep.is_beside.Goals as goal

pub is_square_at_most-requires-clause-a : goal.is_square_at_most-requires-clause-a
is_square_at_most-requires-clause-a c = word-held (2 ^ 51) c.centre_aside.result (omega arith) c.centre_aside.ensures.range

pub is_square_at_most-requires-clause-most : goal.is_square_at_most-requires-clause-most
is_square_at_most-requires-clause-most c = wide-held (2 ^ 120) c.self.inside.limit (omega arith) c.self.invariant.range
