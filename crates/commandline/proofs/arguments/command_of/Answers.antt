use Rattle.std.proofs.Common.{◌≡◌, ◌∙◌, sym, rules, codes}
use Rattle.clap.specs.Words.{found_of, rows_of}
use Rattle.clap.specs.declared.parser.matches.ArgMatches.TheViews.{out-ArgMatches}
use Rattle.clap.proofs.WalkLemmas.{first_value-rows}
use Rattle.commandline.proofs.Matched.{named}
use Rattle.commandline.proofs.arguments.command_of.Goals as goal

pub returns-in-check : goal.returns-in-check
returns-in-check c =
    let s = c.in-Some.ensures in
    let inner = found_of c.in-Some.inner.now in
    let at = named (out-ArgMatches c.args.matches.now).subcommand c.in-Some.name.now (rows_of inner) s.name s.rows in
    let name : c.in-Some.name.now ≡ codes "check" = search rules in
    let file = sym (first_value-rows inner (codes "FILE")) ∙ sym c.in_ok-file.ensures in
    rw at (name, record { named = file; flag = c.flag_of-explains.ensures })

pub returns-in_ok-get_str-in-run : goal.returns-in_ok-get_str-in-run
returns-in_ok-get_str-in-run c =
    let s = c.in-Some.ensures in
    let inner = found_of c.in-Some.inner.now in
    let at = named (out-ArgMatches c.args.matches.now).subcommand c.in-Some.name.now (rows_of inner) s.name s.rows in
    let name : c.in-Some.name.now ≡ codes "run" = search rules in
    let file = sym (first_value-rows inner (codes "FILE")) ∙ sym c.in_ok-file.ensures in
    let script = sym (first_value-rows inner (codes "SCRIPT")) ∙ sym c.in_ok-get_str-in-run.ensures in
    rw at (name, record { named = file; flag = c.flag_of-explains.ensures }, script)

pub returns-in_ok-service_of-in-serve : goal.returns-in_ok-service_of-in-serve
returns-in_ok-service_of-in-serve c =
    let s = c.in-Some.ensures in
    let inner = found_of c.in-Some.inner.now in
    let at = named (out-ArgMatches c.args.matches.now).subcommand c.in-Some.name.now (rows_of inner) s.name s.rows in
    let name : c.in-Some.name.now ≡ codes "serve" = search rules in
    let file = sym (first_value-rows inner (codes "FILE")) ∙ sym c.in_ok-file.ensures in
    let journal = sym (first_value-rows inner (codes "journal")) ∙ sym c.get_str-in-serve.ensures in
    rw at (name, record { named = file; flag = c.flag_of-explains.ensures }, c.in_ok-service_of-in-serve.ensures, journal)
