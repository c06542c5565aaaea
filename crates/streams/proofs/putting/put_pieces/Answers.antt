use Rattle.std.proofs.Common.{◌≡◌, ◌∙◌, ◌++◌, List, ℕ, ap, subst, arith}
use Rattle.std.specs.List.{flat_map}
use Rattle.std.proofs.lemmas.List.{take_all}
use Rattle.std.proofs.lemmas.Result.{on_err_weaker}
use Rattle.streams.specs.Sent.{IsCutSomewhere}
use Rattle.streams.proofs.Pieces.{gathered-next, pieces-cut}
use Rattle.streams.proofs.Sending.{on-err, sent-sent, sent-cut}
use Rattle.streams.proofs.putting.put_pieces.Goals as goal

pub returns-in_err-put_piece-clause-cut : goal.returns-in_err-put_piece-clause-cut
returns-in_err-put_piece-clause-cut g c =
    let before = c.loop-piece.invariant in
    on-err c.from_residual.result _ (pieces-cut _ _ _ _ _ (λ piece. piece.now) c.args.pieces.now c.loop-piece.piece-index _ before.text _ c.loop-piece-test.true before.all before.sent c.in_err-put_piece.ensures.cut)

pub loop-piece-preserved : goal.loop-piece-preserved
loop-piece-preserved g c =
    let before = c.loop-piece.invariant in
    let (more, sent, all) = c.in_ok-put_piece.ensures.sent in
    record {
      text = before.text ++ more;
      all = gathered-next (λ piece. piece.now) c.args.pieces.now c.loop-piece.piece-index _ before.text more _ _ c.loop-piece-test.true before.all all;
      sent = sent-sent _ _ _ _ _ _ _ before.sent sent;
      flag = c.in_ok-put_piece.ensures.flag ∙ before.flag;
    }

pub returns-clause-cut : goal.returns-clause-cut
returns-clause-cut g c =
    let before = c.loop-piece.invariant in
    let all : before.text ++ c.as_slice.result.now ≡ flat_map (λ piece. piece.now) c.args.pieces.now =
    ap (λ l. before.text ++ l) c.as_slice.ensures ∙ before.all ∙ ap (flat_map (λ piece. piece.now)) (take_all c.loop-piece.piece-index c.args.pieces.now (omega (arith, c.loop-piece-test.false))) in
    on_err_weaker c.put_all.result
    (λ cut. subst (λ (l : List ℕ). IsCutSomewhere g.S.Sink.held g.S.Sink.taken c.args.sink.now l c.put_all.new.sink) all (sent-cut _ _ _ _ _ _ _ before.sent cut))
    c.put_all.ensures.cut
