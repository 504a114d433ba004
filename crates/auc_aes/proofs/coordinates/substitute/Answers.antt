use Rattle.std.proofs.Common.{refl}
use Rattle.auc_aes.specs.declared.lane_tables.TheConstants.{S_BOX_FIRST, S_BOX_SECOND, DOUBLE_FIRST, DOUBLE_SECOND}
use Rattle.auc_aes.specs.Lanes.{entry, first_part, second_part}
use Rattle.auc_aes.proofs.LaneLemmas.{places, looked, added}
use Rattle.auc_aes.proofs.coordinates.substitute.Goals as goal

pub look_up-requires-clause-places : goal.look_up-requires-clause-places
look_up-requires-clause-places c = places first_part c.args.v _ c.fits-v.1 c.inverse.ensures.first refl

pub look_up-requires-2-clause-places : goal.look_up-requires-2-clause-places
look_up-requires-2-clause-places c = places second_part c.args.v _ c.fits-v.1 c.inverse.ensures.second refl

pub look_up-requires-3-clause-places : goal.look_up-requires-3-clause-places
look_up-requires-3-clause-places c = places first_part c.args.v _ c.fits-v.1 c.inverse.ensures.first refl

pub look_up-requires-4-clause-places : goal.look_up-requires-4-clause-places
look_up-requires-4-clause-places c = places second_part c.args.v _ c.fits-v.1 c.inverse.ensures.second refl

pub returns-clause-once : goal.returns-clause-once
returns-clause-once c =
    added _ _ (λ y. entry S_BOX_FIRST (first_part y)) (λ y. entry S_BOX_SECOND (second_part y)) c.args.v
    (looked S_BOX_FIRST _ _ first_part c.args.v c.look_up.ensures c.inverse.ensures.first)
    (looked S_BOX_SECOND _ _ second_part c.args.v c.look_up-2.ensures c.inverse.ensures.second)

pub returns-clause-twice : goal.returns-clause-twice
returns-clause-twice c =
    added _ _ (λ y. entry DOUBLE_FIRST (first_part y)) (λ y. entry DOUBLE_SECOND (second_part y)) c.args.v
    (looked DOUBLE_FIRST _ _ first_part c.args.v c.look_up-3.ensures c.inverse.ensures.first)
    (looked DOUBLE_SECOND _ _ second_part c.args.v c.look_up-4.ensures c.inverse.ensures.second)
