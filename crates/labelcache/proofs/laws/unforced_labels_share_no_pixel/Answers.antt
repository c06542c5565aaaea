use Rattle.labelcache.proofs.Unforced.{unforced-share-no-pixel}
use Rattle.labelcache.proofs.laws.unforced_labels_share_no_pixel.Goals as goal

pub returns : goal.returns
returns c = unforced-share-no-pixel
