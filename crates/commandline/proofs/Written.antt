-- The commands that arguments that are written out may be.
use Rattle.std.proofs.Common.{◌≡◌, ◌∙◌, List, [], ◌∷◌, Some, sym, ap, refl, true, false, codes, arith}
use Rattle.std.proofs.Math.ListN.{get_or}
use Rattle.clap.proofs.OnLiterals.{clap_on_literals}
use Rattle.commandline.specs.declared.subcommand.Command.{Command}
use Rattle.commandline.specs.declared.subcommand.Command.TheVariants.{Session, Check, Run, Serve}
use Rattle.clap.specs.Words.{Row, one_of}
use Rattle.commandline.specs.declared.subcommand.Service.{Service}
use Rattle.commandline.specs.Arguments.{IsSession, Checks, Plays, IsService, IsServedBy, OptionTexts, default_texts, Serves, May}

-- two optional texts that are equal have equal texts
same : {X : Type 0} (a b : X) → Some a ≡ Some b → b ≡ a
same a b e = cc

pub none : (c : Command) → May [] c → IsSession c
unfolding clap_on_literals
none Session h = h
none (Check file explains) h = h
none (Run file script explains) h = h
none (Serve file explains service journal) h = h

pub check : (c : Command) → May (codes "check" ∷ codes "a.map" ∷ []) c → Checks (codes "a.map") false c
unfolding clap_on_literals
check Session h = h
check (Check file explains) h = (same _ _ h.1.named, h.1.flag.unset refl)
check (Run file script explains) h = absurd (cc)
check (Serve file explains service journal) h = absurd (cc)

pub explained : (c : Command) → May (codes "check" ∷ codes "--explain" ∷ codes "a.map" ∷ []) c → Checks (codes "a.map") true c
unfolding clap_on_literals
explained Session h = h
explained (Check file explains) h = (same _ _ h.1.named, h.1.flag.set refl)
explained (Run file script explains) h = absurd (cc)
explained (Serve file explains service journal) h = absurd (cc)

pub run : (c : Command) → May (codes "run" ∷ codes "a.map" ∷ codes "b.txt" ∷ []) c → Plays (codes "a.map") (codes "b.txt") false c
unfolding clap_on_literals
run Session h = h
run (Check file explains) h = absurd (cc)
run (Run file script explains) h = (same _ _ h.1.named, same _ _ h.2, h.1.flag.unset refl)
run (Serve file explains service journal) h = absurd (cc)

pub run_explained : (c : Command) → May (codes "run" ∷ codes "--explain" ∷ codes "a.map" ∷ codes "b.txt" ∷ []) c → Plays (codes "a.map") (codes "b.txt") true c
unfolding clap_on_literals
run_explained Session h = h
run_explained (Check file explains) h = absurd (cc)
run_explained (Run file script explains) h = (same _ _ h.1.named, same _ _ h.2, h.1.flag.set refl)
run_explained (Serve file explains service journal) h = absurd (cc)

-- the texts of known rows are the texts of the numbers
served-by : (rows : List Row) (service : Service) (texts : OptionTexts) → IsService rows service →
    one_of (codes "port") rows ≡ Some texts.port → one_of (codes "connections") rows ≡ Some texts.connections → one_of (codes "idle") rows ≡ Some texts.idle → one_of (codes "timeout") rows ≡ Some texts.timeout →
    one_of (codes "admin-port") rows ≡ Some texts.admin_port → one_of (codes "workers") rows ≡ Some texts.workers → one_of (codes "checkpoint") rows ≡ Some texts.checkpoint →
    service.until_input_ends ≡ texts.until_input_ends → service.logs ≡ texts.logs → IsServedBy texts service
served-by rows service texts is p n i t a w k e l = record {
  reads_port = rw (same _ _ (sym p ∙ is.port.1)) at is.port.2;
  reads_connections = rw (same _ _ (sym n ∙ is.connections.1)) at is.connections.2;
  reads_idle = rw (same _ _ (sym i ∙ is.idle.1)) at is.idle.2;
  reads_timeout = rw (same _ _ (sym t ∙ is.timeout.1)) at is.timeout.2;
  reads_admin_port = rw (same _ _ (sym a ∙ is.admin_port.1)) at is.admin_port.2;
  reads_workers = rw (same _ _ (sym w ∙ is.workers.1)) at is.workers.2;
  reads_checkpoint = rw (same _ _ (sym k ∙ is.checkpoint.1)) at is.checkpoint.2;
  ends = e;
  logs = l;
}

pub serve : (c : Command) → May (codes "serve" ∷ codes "a.map" ∷ codes "--connections" ∷ codes "2" ∷ []) c → Serves (codes "a.map") false (record default_texts { connections = codes "2" }) c
unfolding clap_on_literals
serve Session h = h
serve (Check file explains) h = let first : 115 ≡ 99 = ap (λ t. get_or t 0 0) h.0 in absurd (omega (arith, first))
serve (Run file script explains) h = let first : 115 ≡ 114 = ap (λ t. get_or t 0 0) h.0 in absurd (omega (arith, first))
serve (Serve file explains service journal) h = (same _ _ h.1.named, h.1.flag.unset refl, served-by _ service _ h.2 refl refl refl refl refl refl refl (h.2.until_input_ends.unset refl) (h.2.logs.unset refl), sym h.3)

pub served : (c : Command) → May (codes "serve" ∷ codes "--port" ∷ codes "81" ∷ codes "a.map" ∷ []) c → Serves (codes "a.map") false (record default_texts { port = codes "81" }) c
unfolding clap_on_literals
served Session h = h
served (Check file explains) h = let first : 115 ≡ 99 = ap (λ t. get_or t 0 0) h.0 in absurd (omega (arith, first))
served (Run file script explains) h = let first : 115 ≡ 114 = ap (λ t. get_or t 0 0) h.0 in absurd (omega (arith, first))
served (Serve file explains service journal) h = (same _ _ h.1.named, h.1.flag.unset refl, served-by _ service _ h.2 refl refl refl refl refl refl refl (h.2.until_input_ends.unset refl) (h.2.logs.unset refl), sym h.3)

pub timed : (c : Command) → May (codes "serve" ∷ codes "a.map" ∷ codes "--timeout" ∷ codes "9" ∷ codes "--idle" ∷ codes "50" ∷ []) c → Serves (codes "a.map") false (record default_texts { idle = codes "50"; timeout = codes "9" }) c
unfolding clap_on_literals
timed Session h = h
timed (Check file explains) h = let first : 115 ≡ 99 = ap (λ t. get_or t 0 0) h.0 in absurd (omega (arith, first))
timed (Run file script explains) h = let first : 115 ≡ 114 = ap (λ t. get_or t 0 0) h.0 in absurd (omega (arith, first))
timed (Serve file explains service journal) h = (same _ _ h.1.named, h.1.flag.unset refl, served-by _ service _ h.2 refl refl refl refl refl refl refl (h.2.until_input_ends.unset refl) (h.2.logs.unset refl), sym h.3)

pub administered : (c : Command) → May (codes "serve" ∷ codes "a.map" ∷ codes "--workers" ∷ codes "8" ∷ codes "--admin-port" ∷ codes "82" ∷ []) c → Serves (codes "a.map") false (record default_texts { admin_port = codes "82"; workers = codes "8" }) c
unfolding clap_on_literals
administered Session h = h
administered (Check file explains) h = let first : 115 ≡ 99 = ap (λ t. get_or t 0 0) h.0 in absurd (omega (arith, first))
administered (Run file script explains) h = let first : 115 ≡ 114 = ap (λ t. get_or t 0 0) h.0 in absurd (omega (arith, first))
administered (Serve file explains service journal) h = (same _ _ h.1.named, h.1.flag.unset refl, served-by _ service _ h.2 refl refl refl refl refl refl refl (h.2.until_input_ends.unset refl) (h.2.logs.unset refl), sym h.3)

pub ended : (c : Command) → May (codes "serve" ∷ codes "a.map" ∷ codes "--until-input-ends" ∷ []) c → Serves (codes "a.map") false (record default_texts { until_input_ends = true }) c
unfolding clap_on_literals
ended Session h = h
ended (Check file explains) h = let first : 115 ≡ 99 = ap (λ t. get_or t 0 0) h.0 in absurd (omega (arith, first))
ended (Run file script explains) h = let first : 115 ≡ 114 = ap (λ t. get_or t 0 0) h.0 in absurd (omega (arith, first))
ended (Serve file explains service journal) h = (same _ _ h.1.named, h.1.flag.unset refl, served-by _ service _ h.2 refl refl refl refl refl refl refl (h.2.until_input_ends.set refl) (h.2.logs.unset refl), sym h.3)

pub logged : (c : Command) → May (codes "serve" ∷ codes "--log" ∷ codes "a.map" ∷ []) c → Serves (codes "a.map") false (record default_texts { logs = true }) c
unfolding clap_on_literals
logged Session h = h
logged (Check file explains) h = let first : 115 ≡ 99 = ap (λ t. get_or t 0 0) h.0 in absurd (omega (arith, first))
logged (Run file script explains) h = let first : 115 ≡ 114 = ap (λ t. get_or t 0 0) h.0 in absurd (omega (arith, first))
logged (Serve file explains service journal) h = (same _ _ h.1.named, h.1.flag.unset refl, served-by _ service _ h.2 refl refl refl refl refl refl refl (h.2.until_input_ends.unset refl) (h.2.logs.set refl), sym h.3)

pub kept : (c : Command) → May (codes "serve" ∷ codes "a.map" ∷ codes "--journal" ∷ codes "b.journal" ∷ []) c → Serves (codes "a.map") false (record default_texts { journal = Some (codes "b.journal") }) c
unfolding clap_on_literals
kept Session h = h
kept (Check file explains) h = let first : 115 ≡ 99 = ap (λ t. get_or t 0 0) h.0 in absurd (omega (arith, first))
kept (Run file script explains) h = let first : 115 ≡ 114 = ap (λ t. get_or t 0 0) h.0 in absurd (omega (arith, first))
kept (Serve file explains service journal) h = (same _ _ h.1.named, h.1.flag.unset refl, served-by _ service _ h.2 refl refl refl refl refl refl refl (h.2.until_input_ends.unset refl) (h.2.logs.unset refl), sym h.3)

pub shortened : (c : Command) → May (codes "serve" ∷ codes "a.map" ∷ codes "--checkpoint" ∷ codes "64" ∷ codes "--journal" ∷ codes "b.journal" ∷ []) c → Serves (codes "a.map") false (record default_texts { checkpoint = codes "64"; journal = Some (codes "b.journal") }) c
unfolding clap_on_literals
shortened Session h = h
shortened (Check file explains) h = let first : 115 ≡ 99 = ap (λ t. get_or t 0 0) h.0 in absurd (omega (arith, first))
shortened (Run file script explains) h = let first : 115 ≡ 114 = ap (λ t. get_or t 0 0) h.0 in absurd (omega (arith, first))
shortened (Serve file explains service journal) h = (same _ _ h.1.named, h.1.flag.unset refl, served-by _ service _ h.2 refl refl refl refl refl refl refl (h.2.until_input_ends.unset refl) (h.2.logs.unset refl), sym h.3)

pub serve_explained : (c : Command) → May (codes "serve" ∷ codes "a.map" ∷ codes "--explain" ∷ []) c → Serves (codes "a.map") true default_texts c
unfolding clap_on_literals
serve_explained Session h = h
serve_explained (Check file explains) h = let first : 115 ≡ 99 = ap (λ t. get_or t 0 0) h.0 in absurd (omega (arith, first))
serve_explained (Run file script explains) h = let first : 115 ≡ 114 = ap (λ t. get_or t 0 0) h.0 in absurd (omega (arith, first))
serve_explained (Serve file explains service journal) h = (same _ _ h.1.named, h.1.flag.set refl, served-by _ service _ h.2 refl refl refl refl refl refl refl (h.2.until_input_ends.unset refl) (h.2.logs.unset refl), sym h.3)
