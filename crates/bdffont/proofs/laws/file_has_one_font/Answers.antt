use Rattle.bdffont.proofs.OneFont.{file-has-one-font}
use Rattle.bdffont.proofs.laws.file_has_one_font.Goals as goal

pub returns : goal.returns
returns c = file-has-one-font
