use Rattle.clap.specs.Words.{found_of}
use Rattle.clap.proofs.WalkLemmas.{one_text-rows}
use Rattle.commandline.proofs.Matched.{numbered}
use Rattle.commandline.proofs.arguments.number_of.Goals as goal

pub returns : goal.returns
returns c =
    numbered 16 (found_of c.args.matches.now) c.args.name.now (one_text-rows (found_of c.args.matches.now) c.args.name.now) c.get_one.result c.get_one.ensures.none c.get_one.ensures.value
