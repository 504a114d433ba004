use Rattle.auc_aes.proofs.LaneLemmas.{look_up_is, look_up_ok}
use Rattle.auc_aes.proofs.coordinates.look_up.Goals as goal

pub swizzle : goal.swizzle
swizzle c = look_up_ok c.args.at c.fits-at.0 c.requires.places

pub returns : goal.returns
returns c = look_up_is c.args.table c.args.at c.fits-at.0 c.requires.twice c.requires.places
