use Rattle.std.proofs.Common.{refl}
use Rattle.clap.proofs.OnLiterals.{clap_on_literals}
use Rattle.commandline.proofs.laws.arguments_are_taken.Goals as goal

pub returns : goal.returns
unfolding clap_on_literals
returns c = record { taken = (refl, refl, refl); explained = (refl, refl, refl); refused = (refl, refl, refl, refl); answered = (refl, refl, refl); untimely = (refl, refl, refl, refl); unmanned = (refl, refl, refl); unbounded = (refl, refl); nameless = refl }
