use Rattle.std.proofs.Common.{◌≡◌, ◌++◌, [], ◌∷◌, ◌<◌, length, take, arith, append-nil, length-take-le}
use Rattle.std.proofs.KnownBytes.{Consumes-trans}
use Rattle.administration.proofs.Commands.{at-none, ended-after, line-ends, line-is-long, line-is-short}
use Rattle.administration.proofs.reading.read_line.Goals as goal

pub returns-in_err-byte : goal.returns-in_err-byte
returns-in_err-byte g c =
    let before = c.loop-at.invariant in
    let came = take c.loop-at.at c.loop-at.text in
    let at : c.loop-at.at < 33 = omega (arith, c.loop-at-test.true) in
    let short : length came < 33 = omega (arith, at, length-take-le c.loop-at.at c.loop-at.text (omega (arith, at, before.room))) in
    let ended = ended-after _ _ _ _ came [] before.came (c.in_err-byte.ensures) in
    at-none c.from_residual.result _ _ c.from_residual.ensures (came, rw (append-nil came) at ended, line-is-short came before.none short)

pub returns-then-byte-eq10 : goal.returns-then-byte-eq10
returns-then-byte-eq10 g c =
    let before = c.loop-at.invariant in
    let came = take c.loop-at.at c.loop-at.text in
    let at : c.loop-at.at < 33 = omega (arith, c.loop-at-test.true) in
    let short : length came < 33 = omega (arith, at, length-take-le c.loop-at.at c.loop-at.text (omega (arith, at, before.room))) in
    let byte = rw c.if-byte-eq10.true at (c.in_ok-byte.ensures) in
    (came ++ 10 ∷ [], Consumes-trans _ _ _ came (10 ∷ []) before.came byte, rw c.line_of.ensures (line-ends came before.none short))

pub returns : goal.returns
returns g c =
    let before = c.loop-at.invariant in
    let came = take c.loop-at.at c.loop-at.text in
    let at : c.loop-at.at ≡ 33 = omega (arith, c.loop-at-test.false, c.loop-at.auto.at-end) in
    let long : length came ≡ 33 = omega (arith, at, length-take-le c.loop-at.at c.loop-at.text (omega (arith, at, before.room))) in
    (came, before.came, line-is-long came before.none long)
