use Rattle.std.proofs.Common.{◌≡◌, ◌∙◌, ◌<◌, ◌++◌, ◌∷◌, [], take, length, refl, sym, ap, subst, append-nil, arith}
use Rattle.std.specs.List.{concat}
use Rattle.std.specs.Prelude.{IfSome}
use Rattle.std.specs.Io.KnownBytes.{Consumes}
use Rattle.std.proofs.KnownBytes.{Consumes-trans, Consumes-kept}
use Rattle.streams.proofs.Sending.{nothing-sent, sent-sent, sent-cut}
use Rattle.httpedge.specs.Exchange.{IsExchange, IsBegun}
use Rattle.httpedge.specs.Serving.{came_of, requests_left}
use Rattle.httpedge.specs.Stopped.{HasStopped}
use Rattle.httpedge.specs.declared.conn.TheConstants.{REQUESTS}
use Rattle.httpedge.specs.declared.edge.EdgeFault.{EdgeFault}
use Rattle.httpedge.proofs.Courses.{nothing-open}
use Rattle.httpedge.proofs.Ending.{opened-leaves, read-stopped, piece-stopped, end-stopped, piece-exchanged, come-ended}
use Rattle.httpedge.proofs.Serving.{come-first, come-then, leads-all}
use Rattle.httpedge.proofs.Wanted.{gone-nowhere, gone-further, concat-one, wants-now}
use Rattle.httpedge.proofs.edge.exchange.Goals as goal

pub loop-count-init : goal.loop-count-init
loop-count-init g c = rw (c.requires.new) (record {
  pieces = [];
  text = [];
  reading = record { count = omega arith; opened = nothing-open };
  come = come-first g.A.Asks.answers REQUESTS [] c.args.asks.now;
  sent = nothing-sent g.W.Sink.held g.W.Sink.taken c.args.writer.now;
  gone = gone-nowhere g.R.Source.left g.R.Source.took c.args.reader.now;
  few = omega arith;
  read_flag = refl;
  write_flag = refl;
})

pub returns-in_default-clause-stopped : goal.returns-in_default-clause-stopped
returns-in_default-clause-stopped g c =
    let before = c.loop-count.invariant in
    subst (λ (fault : EdgeFault). IfSome (g.R.Source.left c.args.reader.now) (λ stream. HasStopped fault g.A.Asks.answers g.W.Sink stream (record { asker = c.args.asks.now; asks = c.loop-count.asks; before = c.args.writer.now; after = c.loop-count.writer }))) (sym c.of_reader.ensures)
    (read-stopped g.A.Asks.answers g.W.Sink (record { asker = c.args.asks.now; asks = c.loop-count.asks; before = c.args.writer.now; after = c.loop-count.writer }) (g.R.Source.left c.args.reader.now) (g.R.Source.left c.take.new.self) (concat before.pieces) (came_of c.loop-count.conn.progress) before.text
    (requests_left c.loop-count.conn) _ (Consumes-kept _ _ _ _ before.gone.bytes c.in_default.ensures.bytes) before.come before.sent
    (omega (arith, before.sent.count, c.taken-before.ensures)))

pub returns-in_default-clause-kept_up : goal.returns-in_default-clause-kept_up
returns-in_default-clause-kept_up g c =
    let before = c.loop-count.invariant in
    λ _. (
      concat before.pieces,
      Consumes-kept _ _ _ _ before.gone.bytes c.in_default.ensures.bytes,
      record {
        text = before.text;
        left = requests_left c.loop-count.conn;
        came = came_of c.loop-count.conn.progress;
        come = before.come;
        open_rest = opened-leaves c.loop-count.conn.progress before.reading.opened;
        sent = before.sent;
      },
    )

pub returns-in-Err-clause-stopped : goal.returns-in-Err-clause-stopped
returns-in-Err-clause-stopped g c =
    let before = c.loop-count.invariant in
    let (text, cut, begun) = c.in-Err.ensures.cut in
    let none : take c.in-Ok.count c.take.new.room ≡ [] = rw c.if-count-eq0.true refl in
    let read : concat before.pieces ++ take c.in-Ok.count c.take.new.room ≡ concat before.pieces = ap (λ l. concat before.pieces ++ l) none ∙ append-nil (concat before.pieces) in
    let out = sent-cut _ _ _ _ _ _ _ before.sent cut in
    subst (λ (fault : EdgeFault). IfSome (g.R.Source.left c.args.reader.now) (λ stream. HasStopped fault g.A.Asks.answers g.W.Sink stream (record { asker = c.args.asks.now; asks = c.answer_end.new.asks; before = c.args.writer.now; after = c.answer_end.new.writer }))) (sym c.of_writer.ensures)
    (end-stopped g.A.Asks.answers g.W.Sink (record { asker = c.args.asks.now; asks = c.answer_end.new.asks; before = c.args.writer.now; after = c.answer_end.new.writer }) (g.R.Source.left c.args.reader.now) (g.R.Source.left c.take.new.self) (concat before.pieces) (before.text ++ text) _
    (subst (Consumes (g.R.Source.left c.args.reader.now) (g.R.Source.left c.take.new.self)) read (Consumes-trans _ _ _ _ _ before.gone.bytes c.in-Ok.ensures.bytes.0))
    (c.in-Ok.ensures.bytes.1 c.if-count-eq0.true (omega arith))
    (come-ended (IsBegun g.A.Asks.answers) REQUESTS (requests_left c.loop-count.conn) (concat before.pieces) (came_of c.loop-count.conn.progress) before.text text c.args.asks.now c.loop-count.asks c.answer_end.new.asks before.come.begun begun)
    out (omega (arith, out.1.count, c.taken-before.ensures)))

pub loop-count-preserved : goal.loop-count-preserved
loop-count-preserved g c =
    let before = c.loop-count.invariant in
    let conn = c.loop-count.conn in
    let piece = take c.in-Ok.count c.take.new.room in
    let prefix : c.split_at.result.0.now ≡ piece = c.split_at.ensures.front in
    let (text, sent, (reading, come)) = rw (c.in-Ok-true.field-0-test) at c.in-Ok-true.ensures.serves in
    let way = come-then g.A.Asks.answers REQUESTS (requests_left conn) (requests_left c.answer_piece.new.conn) (concat before.pieces) (came_of conn.progress) piece (came_of c.answer_piece.new.conn.progress) before.text text
    c.args.asks.now c.loop-count.asks c.answer_piece.new.asks before.come (rw prefix at come) in
    let some : 0 < length piece = omega (arith, ap length prefix, c.split_at.ensures.front_len, c.if-count-eq0.false) in
    let wants = wants-now g.A.Asks.answers REQUESTS (requests_left c.answer_piece.new.conn) (concat before.pieces ++ piece) (before.text ++ text) (came_of c.answer_piece.new.conn.progress) c.args.asks.now c.answer_piece.new.asks way
    (omega (arith, reading.count)) (opened-leaves c.answer_piece.new.conn.progress reading.opened) in
    record {
      pieces = before.pieces ++ piece ∷ [];
      text = before.text ++ text;
      reading = reading;
      come = rw (concat-one before.pieces piece) way;
      sent = sent-sent _ _ _ _ _ _ _ before.sent sent;
      gone = gone-further g.R.Source.left g.R.Source.took before.pieces piece c.args.reader.now c.loop-count.reader c.take.new.self before.gone c.in-Ok.ensures.took c.in-Ok.ensures.bytes.0 some wants;
      few = omega (arith, before.few, c.in-Ok.ensures.counted, c.in-Ok-true.ensures.less c.in-Ok-true.field-0-test);
      read_flag = c.in-Ok.ensures.flag ∙ before.read_flag;
      write_flag = c.in-Ok-true.ensures.flag ∙ before.write_flag;
    }

pub returns-in-Ok-false-clause-exchanged : goal.returns-in-Ok-false-clause-exchanged
returns-in-Ok-false-clause-exchanged g c =
    let before = c.loop-count.invariant in
    let conn = c.loop-count.conn in
    let piece = c.split_at.result.0.now in
    let (text, sent, all) = rw (c.in-Ok-false.field-0-test) at c.in-Ok-false.ensures.serves in
    let read = subst (Consumes (g.R.Source.left c.loop-count.reader) (g.R.Source.left c.take.new.self)) (sym c.split_at.ensures.front) c.in-Ok.ensures.bytes.0 in
    piece-exchanged g.A.Asks.answers g.W.Sink (record { asker = c.args.asks.now; asks = c.answer_piece.new.asks; before = c.args.writer.now; after = c.answer_piece.new.writer }) (g.R.Source.left c.args.reader.now) (g.R.Source.left c.take.new.self) (concat before.pieces ++ piece) (before.text ++ text)
    (Consumes-trans _ _ _ _ _ before.gone.bytes read)
    (leads-all (IsExchange g.A.Asks.answers) REQUESTS (requests_left conn) (concat before.pieces) (came_of conn.progress) piece before.text text c.args.asks.now c.loop-count.asks c.answer_piece.new.asks before.come.answered all)
    (sent-sent _ _ _ _ _ _ _ before.sent sent)

pub returns-in-Err-answer_piece-clause-stopped : goal.returns-in-Err-answer_piece-clause-stopped
returns-in-Err-answer_piece-clause-stopped g c =
    let before = c.loop-count.invariant in
    let conn = c.loop-count.conn in
    let piece = c.split_at.result.0.now in
    let (text, cut, begun) = c.in-Err-answer_piece.ensures.cut in
    let read = subst (Consumes (g.R.Source.left c.loop-count.reader) (g.R.Source.left c.take.new.self)) (sym c.split_at.ensures.front) c.in-Ok.ensures.bytes.0 in
    let out = sent-cut _ _ _ _ _ _ _ before.sent cut in
    subst (λ (fault : EdgeFault). IfSome (g.R.Source.left c.args.reader.now) (λ stream. HasStopped fault g.A.Asks.answers g.W.Sink stream (record { asker = c.args.asks.now; asks = c.answer_piece.new.asks; before = c.args.writer.now; after = c.answer_piece.new.writer }))) (sym c.of_writer-in-Err-answer_piece.ensures)
    (piece-stopped g.A.Asks.answers g.W.Sink (record { asker = c.args.asks.now; asks = c.answer_piece.new.asks; before = c.args.writer.now; after = c.answer_piece.new.writer }) (g.R.Source.left c.args.reader.now) (g.R.Source.left c.take.new.self) (concat before.pieces ++ piece) (before.text ++ text) _
    (Consumes-trans _ _ _ _ _ before.gone.bytes read)
    (leads-all (IsBegun g.A.Asks.answers) REQUESTS (requests_left conn) (concat before.pieces) (came_of conn.progress) piece before.text text c.args.asks.now c.loop-count.asks c.answer_piece.new.asks before.come.begun begun)
    out (omega (arith, out.1.count, c.taken-before.ensures)))
