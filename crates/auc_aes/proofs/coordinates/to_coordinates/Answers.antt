use Rattle.std.proofs.Common.{refl}
use Rattle.auc_aes.specs.declared.lane_tables.TheConstants.{COORDINATES_LOW, COORDINATES_HIGH}
use Rattle.auc_aes.specs.Lanes.{entry, low_of, high_of}
use Rattle.auc_aes.proofs.LaneLemmas.{places, looked, added}
use Rattle.auc_aes.proofs.coordinates.to_coordinates.Goals as goal

pub look_up-requires-clause-places : goal.look_up-requires-clause-places
look_up-requires-clause-places c = places low_of c.args.v _ c.fits-v.1 c.low.ensures refl

pub look_up-requires-2-clause-places : goal.look_up-requires-2-clause-places
look_up-requires-2-clause-places c = places high_of c.args.v _ c.fits-v.1 c.high.ensures refl

pub returns : goal.returns
returns c =
    added _ _ (λ y. entry COORDINATES_LOW (low_of y)) (λ y. entry COORDINATES_HIGH (high_of y)) c.args.v
    (looked COORDINATES_LOW _ _ low_of c.args.v c.look_up.ensures c.low.ensures)
    (looked COORDINATES_HIGH _ _ high_of c.args.v c.look_up-2.ensures c.high.ensures)
