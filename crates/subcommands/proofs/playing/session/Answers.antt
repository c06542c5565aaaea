use Rattle.std.proofs.KnownBytes.{Keeps-refl}
use Rattle.subcommands.proofs.Serving.{served}
use Rattle.subcommands.proofs.playing.session.Goals as goal

pub returns-clause-plays : goal.returns-clause-plays
returns-clause-plays g c =
    rw c.in_ok-map.ensures.same
    (served _ c.play_on.result _ _ _ _ c.in_ok-map.map
    (record { session = c.in-Ok.session.items; bytes = c.in-Ok.ensures.bytes; end = c.in-Ok.ensures.end; parts = rw c.deref.ensures.value at c.split_session.ensures })
    c.in_ok-map.ensures.map c.play_on.ensures.ends (Keeps-refl _))
