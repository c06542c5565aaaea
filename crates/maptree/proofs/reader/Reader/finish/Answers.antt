use Rattle.std.proofs.Common.{refl, sym}
use Rattle.maptree.proofs.Joining.{answer-open, answer-broken}
use Rattle.maptree.proofs.reader.Reader.finish.Goals.{in-None, in-Some}
use Rattle.maptree.proofs.reader.Reader.finish.Goals as goal

pub returns-after-pop : goal.returns-after-pop
returns-after-pop c = elim c.match-pop.branch [
  | in-None w ↦ rw (w.result-is, w.take_map.ensures.map, c.in-Ends.is, w.in-None.ensures.0) refl
  | in-Some w ↦
      rw (w.result-is, w.missing.ensures, w.in-Some.ensures) (sym (answer-open c.args.tail w.in-Some.field-0 c.pop.new.self c.args.self.now.drafts))
]

pub returns-in-Breaks : goal.returns-in-Breaks
returns-in-Breaks c =
    rw (c.missing-in-Breaks.ensures, c.in-Breaks.is) (sym (answer-broken c.in-Breaks.field-0 c.args.self.now.contexts c.args.self.now.drafts))
