use Rattle.std.proofs.Common.{◌∙◌, sym}
use Rattle.httpedge.proofs.Heads.{piece-headless}
use Rattle.httpedge.proofs.Blanks.{blank-more-headless}
use Rattle.httpedge.proofs.received.Received.may_end_head.Goals as goal

pub returns-then-not-ends_line : goal.returns-then-not-ends_line
returns-then-not-ends_line c is-false =
    piece-headless c.args.self.now.bytes.items c.args.piece.now (c.requires.received.no_head c.requires.open) (sym c.ends_line.ensures ∙ c.if-not-ends_line.true)

pub returns-else-self : goal.returns-else-self
returns-else-self c is-false =
    blank-more-headless c.args.self.now.bytes.items c.args.piece.now _ (c.requires.received.blank c.requires.open c.if-self.false) c.is_blank.ensures is-false
