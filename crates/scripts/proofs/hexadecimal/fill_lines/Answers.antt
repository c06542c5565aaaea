use Rattle.std.proofs.Common.{◌∙◌, ◌≤◌, ◌-◌, ◌++◌, ap, sym, arith, append_assoc, append-nil, length, take, drop, length-take, length-drop}
use Rattle.scripts.specs.Transcript.{hex_lines, hex_within}
use Rattle.scripts.proofs.Filling.{length-put, put-behind}
use Rattle.scripts.proofs.HexLines.{hex_lines-cut}
use Rattle.batches.proofs.Leading.{some-left}
use Rattle.scripts.proofs.Rests.{none-left}
use Rattle.scripts.proofs.hexadecimal.fill_lines.Goals as goal

pub loop-rest-preserved : goal.loop-rest-preserved
loop-rest-preserved c =
    let before = c.loop-rest.invariant in
    let room = c.loop-rest.room in
    let put = c.fill_line-count.new.room in
    let some = some-left _ _ c.is_empty.ensures c.loop-rest-test.true in
    let fits : c.loop-rest.count ≤ length room = omega (arith, before.room) in
    let same = length-put c.loop-rest.count room put fits (omega (arith, fits, c.fill_line-count.ensures.rest, length-take (length room - c.loop-rest.count) (drop c.loop-rest.count room), length-drop c.loop-rest.count room)) in
    record {
      lines =
          ap (λ text. text ++ hex_lines c.split_at.result.1.now) (put-behind c.loop-rest.count c.fill_line-count.result room put fits)
          ∙ append_assoc (take c.loop-rest.count room) _ _
          ∙ ap (λ text. take c.loop-rest.count room ++ (text ++ hex_lines c.split_at.result.1.now)) c.fill_line-count.ensures.line
          ∙ ap (λ text. take c.loop-rest.count room ++ text) (sym (hex_lines-cut _ _ _ _ some c.min.ensures c.split_at.ensures.front c.split_at.ensures.back))
          ∙ before.lines;
      room = omega (arith, same, before.room, some, c.fill_line-count.ensures.count, c.min.ensures, c.split_at.ensures.front_len, c.split_at.ensures.back_len);
      same = same ∙ before.same;
    }

pub returns-clause-lines : goal.returns-clause-lines
unfolding hex_within
returns-clause-lines c =
    let before = c.loop-rest.invariant in
    let nothing = none-left _ _ c.is_empty.ensures c.loop-rest-test.false in
    sym (append-nil _) ∙ (rw nothing at before.lines)
