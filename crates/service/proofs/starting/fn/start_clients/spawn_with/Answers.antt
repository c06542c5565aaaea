use denote.Param.Send.{param_send}
use Rattle.service.proofs.starting.fn.start_clients.spawn_with.Goals as goal

-- what the closure requires of its types comes after their lifetimes: that S, R, C, T, P, Q, W and the waker of Q may be sent
pub serve_all-requires-send-S : goal.serve_all-requires-send-S
serve_all-requires-send-S g c κs within = param_send 0 g.row.S c.requires.1.1.1.1.1.1.1.1.1.1.1.1.1.1.1.1.0

pub serve_all-requires-send-C : goal.serve_all-requires-send-C
serve_all-requires-send-C g c κs within = param_send 2 g.row.C c.requires.1.1.1.1.1.1.1.1.1.1.1.1.1.1.1.1.2

pub serve_all-requires-send-T : goal.serve_all-requires-send-T
serve_all-requires-send-T g c κs within = param_send 3 g.row.T c.requires.1.1.1.1.1.1.1.1.1.1.1.1.1.1.1.1.3

pub serve_all-requires-send-Q : goal.serve_all-requires-send-Q
serve_all-requires-send-Q g c κs within = param_send 5 g.row.Q c.requires.1.1.1.1.1.1.1.1.1.1.1.1.1.1.1.1.5

pub serve_all-requires-send-Q-Waker : goal.serve_all-requires-send-Q-Waker
serve_all-requires-send-Q-Waker g c κs within = param_send 7 g.row.Q-Waker c.requires.1.1.1.1.1.1.1.1.1.1.1.1.1.1.1.1.7
