use Rattle.std.proofs.Common.{All, map, subst, take_all}
use Rattle.clap.specs.Words.{rows_of, found_of}
use Rattle.commandline.specs.Arguments.{IsInRange, option_of}
use Rattle.commandline.proofs.Ranges.{all-more}
use Rattle.commandline.proofs.arguments.are_in_range.Goals as goal

pub loop-option-preserved : goal.loop-option-preserved
loop-option-preserved c =
    all-more (IsInRange (rows_of (found_of c.args.matches.now))) option_of c.args.options.now c.loop-option.option-index _ c.loop-option-test.true c.loop-option.invariant (c.is_in_range.ensures c.if-not-is_in_range.false)

pub returns : goal.returns
returns c = λ _. subst (λ options. All (IsInRange (rows_of (found_of c.args.matches.now))) (map option_of options)) (take_all c.loop-option.option-index c.args.options.now c.loop-option-test.false) c.loop-option.invariant
