use Rattle.std.proofs.Common.{refl}
use Rattle.auc_aes.specs.declared.lane_tables.TheConstants.{INVERSES, QUOTIENTS}
use Rattle.auc_aes.specs.Lanes.{entry, low_of, high_of, sum_of, first_inner, second_inner}
use Rattle.auc_aes.proofs.LaneLemmas.{places, looked, added}
use Rattle.auc_aes.proofs.coordinates.inverse.Goals as goal

pub look_up-quotient-requires-clause-places : goal.look_up-quotient-requires-clause-places
look_up-quotient-requires-clause-places c = places low_of c.args.v _ c.fits-v.1 c.low-low.ensures refl

pub look_up-requires-clause-places : goal.look_up-requires-clause-places
look_up-requires-clause-places c = places high_of c.args.v _ c.fits-v.1 c.high-high.ensures refl

pub look_up-requires-2-clause-places : goal.look_up-requires-2-clause-places
look_up-requires-2-clause-places c =
    places sum_of c.args.v _ c.fits-v.1 (added _ _ high_of low_of c.args.v c.high-high.ensures c.low-low.ensures) refl

pub look_up-requires-3-clause-places : goal.look_up-requires-3-clause-places
look_up-requires-3-clause-places c =
    places first_inner c.args.v _ c.fits-v.1
    (added _ _ (λ y. entry INVERSES (high_of y)) (λ y. entry QUOTIENTS (low_of y)) c.args.v
    (looked INVERSES _ _ high_of c.args.v c.look_up.ensures c.high-high.ensures)
    (looked QUOTIENTS _ _ low_of c.args.v c.look_up-quotient.ensures c.low-low.ensures)) refl

pub look_up-requires-4-clause-places : goal.look_up-requires-4-clause-places
look_up-requires-4-clause-places c =
    places second_inner c.args.v _ c.fits-v.1
    (added _ _ (λ y. entry INVERSES (sum_of y)) (λ y. entry QUOTIENTS (low_of y)) c.args.v
    (looked INVERSES _ _ sum_of c.args.v c.look_up-2.ensures (added _ _ high_of low_of c.args.v c.high-high.ensures c.low-low.ensures))
    (looked QUOTIENTS _ _ low_of c.args.v c.look_up-quotient.ensures c.low-low.ensures)) refl

pub returns-clause-first : goal.returns-clause-first
returns-clause-first c =
    added _ _ (λ y. entry INVERSES (first_inner y)) sum_of c.args.v
    (looked INVERSES _ _ first_inner c.args.v c.look_up-3.ensures
    (added _ _ (λ y. entry INVERSES (high_of y)) (λ y. entry QUOTIENTS (low_of y)) c.args.v
    (looked INVERSES _ _ high_of c.args.v c.look_up.ensures c.high-high.ensures)
    (looked QUOTIENTS _ _ low_of c.args.v c.look_up-quotient.ensures c.low-low.ensures)))
    (added _ _ high_of low_of c.args.v c.high-high.ensures c.low-low.ensures)

pub returns-clause-second : goal.returns-clause-second
returns-clause-second c =
    added _ _ (λ y. entry INVERSES (second_inner y)) high_of c.args.v
    (looked INVERSES _ _ second_inner c.args.v c.look_up-4.ensures
    (added _ _ (λ y. entry INVERSES (sum_of y)) (λ y. entry QUOTIENTS (low_of y)) c.args.v
    (looked INVERSES _ _ sum_of c.args.v c.look_up-2.ensures (added _ _ high_of low_of c.args.v c.high-high.ensures c.low-low.ensures))
    (looked QUOTIENTS _ _ low_of c.args.v c.look_up-quotient.ensures c.low-low.ensures)))
    c.high-high.ensures
