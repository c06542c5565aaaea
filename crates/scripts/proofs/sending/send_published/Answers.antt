use Rattle.std.proofs.Common.{◌≡◌, ◌∙◌}
use Rattle.std.specs.Fmt.{decimal}
use Rattle.scripts.proofs.sending.send_published.Goals as goal

pub returns-clause-sent : goal.returns-clause-sent
returns-clause-sent g c =
    let is : c.as_bytes-number.result.now ≡ decimal c.args.sequence = c.as_bytes-number.ensures.value ∙ c.format.ensures.text in
    rw is at c.put_pieces.ensures.sent

pub returns-clause-cut : goal.returns-clause-cut
returns-clause-cut g c =
    let is : c.as_bytes-number.result.now ≡ decimal c.args.sequence = c.as_bytes-number.ensures.value ∙ c.format.ensures.text in
    rw is at c.put_pieces.ensures.cut
