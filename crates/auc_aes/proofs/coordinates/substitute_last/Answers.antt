use Rattle.std.proofs.Common.{refl}
use Rattle.auc_aes.specs.declared.lane_tables.TheConstants.{BYTE_FIRST, BYTE_SECOND}
use Rattle.auc_aes.specs.Lanes.{entry, first_part, second_part}
use Rattle.auc_aes.proofs.LaneLemmas.{places, looked, added}
use Rattle.auc_aes.proofs.coordinates.substitute_last.Goals as goal

pub look_up-requires-clause-places : goal.look_up-requires-clause-places
look_up-requires-clause-places c = places first_part c.args.v _ c.fits-v.1 c.inverse.ensures.first refl

pub look_up-requires-2-clause-places : goal.look_up-requires-2-clause-places
look_up-requires-2-clause-places c = places second_part c.args.v _ c.fits-v.1 c.inverse.ensures.second refl

pub returns : goal.returns
returns c =
    added _ _ (λ y. entry BYTE_FIRST (first_part y)) (λ y. entry BYTE_SECOND (second_part y)) c.args.v
    (looked BYTE_FIRST _ _ first_part c.args.v c.look_up.ensures c.inverse.ensures.first)
    (looked BYTE_SECOND _ _ second_part c.args.v c.look_up-2.ensures c.inverse.ensures.second)
