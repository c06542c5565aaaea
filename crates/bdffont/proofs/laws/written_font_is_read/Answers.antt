use Rattle.bdffont.proofs.WrittenFont.{written-font-is-read}
use Rattle.bdffont.proofs.laws.written_font_is_read.Goals as goal

pub returns : goal.returns
returns c = written-font-is-read
