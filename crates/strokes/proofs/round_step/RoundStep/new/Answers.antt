use Rattle.std.proofs.Common.{◌≡◌, ◌∙◌, ℕ, ◌^◌, subst, arith}
use Rattle.geom.specs.Edge.{EdgeEnds}
use Rattle.scanfill.proofs.Words.{wide, wide-held, word}
use Rattle.strokes.specs.Chord.{NothingBetween}
use Rattle.strokes.specs.Round.{limit}
use Rattle.strokes.proofs.Walking.{small-point}
use Rattle.strokes.proofs.round_step.RoundStep.new.Goals as goal

pub invariant_of-result : goal.invariant_of-result
invariant_of-result c =
    let from = small-point c.args.from c.requires.from in
    let to = small-point c.args.to c.requires.to in
    let e : EdgeEnds = record { from = c.args.from; to = c.args.to } in
    let raw : c.limit.result ≡ limit c.width.result e = rw (
      word (2 ^ 21) c.square_of_half-half.result (omega arith) c.square_of_half-half.ensures.range,
      c.square_of_half-half.ensures.value,
      wide (2 ^ 97) c.apart-length.result (omega arith) c.apart-length.ensures.range,
      c.apart-length.ensures.value,
    ) at c.limit.ensures.value in
    let value : c.limit.result ≡ limit c.args.chords.now e = subst (λ (w : ℕ). c.limit.result ≡ limit w e) c.width.ensures.value raw in
    record {
      some = omega (arith, c.width.ensures.value, c.width.ensures.some);
      most = omega (arith, c.width.ensures.value, c.width.ensures.most);
      small = record { from_across = from.across; from_down = from.down; to_across = to.across; to_down = to.down };
      limit = wide (2 ^ 120) c.limit.result (omega arith) c.limit.ensures.range ∙ value;
      range = wide-held (2 ^ 120) c.limit.result (omega arith) c.limit.ensures.range;
      plain = λ yes. subst (λ z. NothingBetween c.args.chords.now z) (wide (2 ^ 97) c.apart-length.result (omega arith) c.apart-length.ensures.range ∙ c.apart-length.ensures.value) (c.is_plain.ensures yes);
    }
