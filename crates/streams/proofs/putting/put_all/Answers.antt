use Rattle.std.proofs.Common.{◌∙◌, ◌++◌, take, drop, ap, arith, append_assoc, length-take-le, take-append-drop}
use Rattle.std.proofs.lemmas.List.{take_rest}
use Rattle.streams.proofs.Sending.{sent-sent}
use Rattle.streams.proofs.putting.put_all.Goals as goal

pub loop-rest-preserved : goal.loop-rest-preserved
loop-rest-preserved g c =
    let before = c.loop-rest.invariant in
    let n = c.in_ok-count.count in
    let rest = c.loop-rest.rest.now in
    let put = c.in_ok-count.ensures in
    record {
      text = before.text ++ take n rest;
      all = rw (take_rest rest n) (append_assoc before.text (take n rest) (drop n rest) ∙ ap (λ l. before.text ++ l) (take-append-drop n rest) ∙ before.all);
      sent = sent-sent _ _ _ _ _ _ _ before.sent (record { bytes = put.bytes; count = omega (arith, put.taken, length-take-le n rest put.count) });
      flag = put.flag ∙ before.flag;
    }
