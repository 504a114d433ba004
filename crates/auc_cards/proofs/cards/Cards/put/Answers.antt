use Rattle.std.proofs.Common.{◌-◌, ◌∙◌, ap, sym, rules}
use Rattle.std.specs.Prelude.{Some, slice_set}
use Rattle.auc_cards.specs.Own.{AllCards}
use Rattle.auc_cards.specs.declared.cards.Card.{Card}
use Rattle.auc_cards.proofs.DeviceLemmas.{at_within, none_past, put_none, put_some, same_back, some_back}
use Rattle.auc_cards.proofs.cards.Cards.put.Goals as goal

pub loop-left-preserved-in-Some : goal.loop-left-preserved-in-Some
loop-left-preserved-in-Some c =
    let homes = c.homes-homes.result.now in
    let devices = c.devices-devices.result.now in
    let home = c.index-homes-left.result in
    let here = at_within homes (c.loop-left.left - 1) home (search rules) ∙ ap Some (sym c.index-homes-left.is) in
    let there = at_within devices (c.loop-left.left - 1) c.in-Some.device.now (search rules) ∙ ap Some (sym c.in-Some.ensures.lookup.1) in
    record {
      low = search rules;
      usims = put_some c.args.self.now.usims c.loop-left.self.usims c.set.new.self.usims homes devices c.loop-left.left (c.loop-left.left - 1) home c.in-Some.device.now (search rules) here there
          (ap (λ (s : AllCards). s.usims) c.set.ensures ∙ ap (λ (k : Card). slice_set c.loop-left.self.usims home.sub k.usim) c.card_of.ensures) c.loop-left.invariant.usims;
      kept = some_back c.args.self.now.kept c.loop-left.self.kept c.set.new.self.kept homes devices c.loop-left.left (c.loop-left.left - 1) home c.in-Some.device.now (search rules) here there
          (ap (λ (s : AllCards). s.kept) c.set.ensures ∙ ap (λ (k : Card). slice_set c.loop-left.self.kept home.sub k.kept) c.card_of.ensures) c.loop-left.invariant.kept;
    }

pub loop-left-preserved : goal.loop-left-preserved
loop-left-preserved c =
    let homes = c.homes-homes.result.now in
    let devices = c.devices-devices.result.now in
    let none = none_past devices (c.loop-left.left - 1) c.in_default.ensures.lookup.3 in
    record {
      low = search rules;
      usims = put_none c.args.self.now.usims c.loop-left.self.usims homes devices c.loop-left.left (c.loop-left.left - 1) (search rules) none c.loop-left.invariant.usims;
      kept = same_back c.args.self.now.kept c.loop-left.self.kept homes devices c.loop-left.left (c.loop-left.left - 1) (search rules) none c.loop-left.invariant.kept;
    }
