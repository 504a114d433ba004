use Rattle.std.proofs.Common.{Err, ◌∙◌, ap, map, refl, sym, subst}
use Rattle.auc_world.proofs.ApplyLemmas.{acted_ends, answered_applies, both_ok, each_ok, give_up_applies, open_applies, opened_ends, repeat_applies, same_devices, same_homes, served_applies, start_applies, unreached_applies, cut_applies, tamper_applies}
use Rattle.auc_world.proofs.AskedLemmas.{acted_asks_nobody, asks_nobody, opened_asks_nobody}
use Rattle.auc_world.proofs.CopyLemmas.{changed_is_silent}
use Rattle.auc_world.specs.Came.{session_of}
use Rattle.auc_record.specs.Event.{asked_in}
use Rattle.auc_world.specs.declared.acting.Deed.TheVariants as deed
use Rattle.auc_world.specs.World.{Applies}
use Rattle.auc_lines.specs.declared.part.End.{End}
use Rattle.auc_server.specs.declared.setting.HomeRow.{HomeRow}
use Rattle.auc_world.proofs.WorldLemmas.{on_error}
use Rattle.auc_record.specs.declared.event.Event.{Event}
use Rattle.auc_record.specs.declared.event.Event.TheVariants as event
use Rattle.auc_world.proofs.world.World.apply.Goals as goal

pub returns-in-Open-clause-applied : goal.returns-in-Open-clause-applied
returns-in-Open-clause-applied g c =
    let now = c.args.self.now in
    let new = c.open.new.self in
    let centre = c.args.centre.now in
    both_ok c.open.result _ _ _
    (λ came is leads pasts. subst (λ (e : Event). Applies g.C.Centre.goes g.C.Centre.kept g.C.Centre.top c.args.set.now now e centre new came centre) (sym c.in-Open.is)
    (open_applies g.C.Centre.goes g.C.Centre.kept g.C.Centre.top c.args.set.now now new centre centre g.met.C.Centre.stays c.in-Open.opening came is leads))
    c.open.ensures.came c.open.ensures.opened

pub returns-in-Start-clause-applied : goal.returns-in-Start-clause-applied
returns-in-Start-clause-applied g c =
    let now = c.args.self.now in
    let new = c.act.new.self in
    let centre = c.args.centre.now in
    both_ok c.act.result _ _ _
    (λ came is leads pasts. subst (λ (e : Event). Applies g.C.Centre.goes g.C.Centre.kept g.C.Centre.top c.args.set.now now e centre new came centre) (sym c.in-Start.is)
    (start_applies g.C.Centre.goes g.C.Centre.kept g.C.Centre.top c.args.set.now now new centre centre g.met.C.Centre.stays c.in-Start.session came is leads))
    c.act.ensures.came c.act.ensures.acted

pub returns-in-Repeat-clause-applied : goal.returns-in-Repeat-clause-applied
returns-in-Repeat-clause-applied g c =
    let now = c.args.self.now in
    let new = c.act-in-Repeat.new.self in
    let centre = c.args.centre.now in
    both_ok c.act-in-Repeat.result _ _ _
    (λ came is leads pasts. subst (λ (e : Event). Applies g.C.Centre.goes g.C.Centre.kept g.C.Centre.top c.args.set.now now e centre new came centre) (sym c.in-Repeat.is)
    (repeat_applies g.C.Centre.goes g.C.Centre.kept g.C.Centre.top c.args.set.now now new centre centre g.met.C.Centre.stays c.in-Repeat.session came is leads))
    c.act-in-Repeat.ensures.came c.act-in-Repeat.ensures.acted

pub returns-in-GiveUp-clause-applied : goal.returns-in-GiveUp-clause-applied
returns-in-GiveUp-clause-applied g c =
    let now = c.args.self.now in
    let new = c.act-in-GiveUp.new.self in
    let centre = c.args.centre.now in
    both_ok c.act-in-GiveUp.result _ _ _
    (λ came is leads pasts. subst (λ (e : Event). Applies g.C.Centre.goes g.C.Centre.kept g.C.Centre.top c.args.set.now now e centre new came centre) (sym c.in-GiveUp.is)
    (give_up_applies g.C.Centre.goes g.C.Centre.kept g.C.Centre.top c.args.set.now now new centre centre g.met.C.Centre.stays c.in-GiveUp.session came c.in-GiveUp.end is leads))
    c.act-in-GiveUp.ensures.came c.act-in-GiveUp.ensures.acted

pub returns-in-Tamper-clause-applied : goal.returns-in-Tamper-clause-applied
returns-in-Tamper-clause-applied g c =
    let now = c.args.self.now in
    let new = c.change.new.self in
    let centre = c.args.centre.now in
    both_ok c.change.result _ _ _
    (λ came is leads pasts. subst (λ (e : Event). Applies g.C.Centre.goes g.C.Centre.kept g.C.Centre.top c.args.set.now now e centre new came centre) (sym c.in-Tamper.is)
    (tamper_applies g.C.Centre.goes g.C.Centre.kept g.C.Centre.top c.args.set.now now new centre centre g.met.C.Centre.stays c.in-Tamper.packet came c.in-Tamper.place c.in-Tamper.byte is leads))
    c.change.ensures.came c.change.ensures.made

pub returns-in-Cut-clause-applied : goal.returns-in-Cut-clause-applied
returns-in-Cut-clause-applied g c =
    let now = c.args.self.now in
    let new = c.change-in-Cut.new.self in
    let centre = c.args.centre.now in
    both_ok c.change-in-Cut.result _ _ _
    (λ came is leads pasts. subst (λ (e : Event). Applies g.C.Centre.goes g.C.Centre.kept g.C.Centre.top c.args.set.now now e centre new came centre) (sym c.in-Cut.is)
    (cut_applies g.C.Centre.goes g.C.Centre.kept g.C.Centre.top c.args.set.now now new centre centre g.met.C.Centre.stays c.in-Cut.packet came c.in-Cut.length is leads))
    c.change-in-Cut.ensures.came c.change-in-Cut.ensures.made

pub returns-in-Err-default-clause-applied : goal.returns-in-Err-default-clause-applied
returns-in-Err-default-clause-applied g c pasts =
    let now = c.args.self.now in
    let centre = c.args.centre.now in
    subst (λ (e : Event). Applies g.C.Centre.goes g.C.Centre.kept g.C.Centre.top c.args.set.now now e centre now (Err c.in-Err-default.why) centre) (sym c.in-Deliver.is)
    (unreached_applies g.C.Centre.goes g.C.Centre.kept g.C.Centre.top c.args.set.now now now centre centre g.met.C.Centre.stays c.in-Deliver.session c.in-Deliver.packet c.in-Deliver.end
    c.in-Err-default.why c.in-Err-default.ensures.refused)

pub returns-in-Ok-Server-clause-applied : goal.returns-in-Ok-Server-clause-applied
returns-in-Ok-Server-clause-applied g c =
    let now = c.args.self.now in
    let new = c.to_server.new.self in
    let centre = c.args.centre.now in
    each_ok c.to_server.result _ _
    (λ came serves pasts. subst (λ (e : Event). Applies g.C.Centre.goes g.C.Centre.kept g.C.Centre.top c.args.set.now now e centre new came c.to_server.new.centre) (sym (c.in-Deliver.is ∙ ap (λ (e : End). event.Deliver c.in-Deliver.session e c.in-Deliver.packet) c.in-Ok-Server.is-1))
    (served_applies g.C.Centre.goes g.C.Centre.kept g.C.Centre.top c.args.set.now now new centre c.to_server.new.centre g.met.C.Centre.stays c.in-Deliver.session c.in-Ok-Server.place c.in-Deliver.packet came
    c.in-Ok-Server.ensures.place c.in-Ok-Server.ensures.reached serves))
    c.to_server.ensures.served

pub returns-in-Ok-Peer-clause-applied : goal.returns-in-Ok-Peer-clause-applied
returns-in-Ok-Peer-clause-applied g c =
    let now = c.args.self.now in
    let new = c.to_peer.new.self in
    let centre = c.args.centre.now in
    each_ok c.to_peer.result _ _
    (λ came answers pasts. subst (λ (e : Event). Applies g.C.Centre.goes g.C.Centre.kept g.C.Centre.top c.args.set.now now e centre new came centre) (sym (c.in-Deliver.is ∙ ap (λ (e : End). event.Deliver c.in-Deliver.session e c.in-Deliver.packet) c.in-Ok-Peer.is-1))
    (answered_applies g.C.Centre.goes g.C.Centre.kept g.C.Centre.top c.args.set.now now new centre centre g.met.C.Centre.stays c.in-Deliver.session c.in-Ok-Peer.place c.in-Deliver.packet came
    c.in-Ok-Peer.ensures.place c.in-Ok-Peer.ensures.reached (answers pasts)))
    c.to_peer.ensures.answered

-- ---- for whom the centre was asked

pub returns-in-Open-clause-asked : goal.returns-in-Open-clause-asked
returns-in-Open-clause-asked g c =
    each_ok c.open.result _ _ (λ came is. asks_nobody _ _ (ap asked_in is ∙ opened_asks_nobody _ _)) c.open.ensures.came

pub returns-in-Start-clause-asked : goal.returns-in-Start-clause-asked
returns-in-Start-clause-asked g c = each_ok c.act.result _ _ (λ came is. asks_nobody _ _ (ap asked_in is ∙ acted_asks_nobody c.args.self.now.net deed.Start (session_of c.args.self.now.net c.in-Start.session))) c.act.ensures.came

pub returns-in-Repeat-clause-asked : goal.returns-in-Repeat-clause-asked
returns-in-Repeat-clause-asked g c =
    each_ok c.act-in-Repeat.result _ _ (λ came is. asks_nobody _ _ (ap asked_in is ∙ acted_asks_nobody c.args.self.now.net deed.Repeat (session_of c.args.self.now.net c.in-Repeat.session))) c.act-in-Repeat.ensures.came

pub returns-in-GiveUp-clause-asked : goal.returns-in-GiveUp-clause-asked
returns-in-GiveUp-clause-asked g c =
    each_ok c.act-in-GiveUp.result _ _ (λ came is. asks_nobody _ _ (ap asked_in is ∙ acted_asks_nobody c.args.self.now.net (deed.GiveUp c.in-GiveUp.end) (session_of c.args.self.now.net c.in-GiveUp.session))) c.act-in-GiveUp.ensures.came

pub returns-in-Tamper-clause-asked : goal.returns-in-Tamper-clause-asked
returns-in-Tamper-clause-asked g c = each_ok c.change.result _ _ (λ came is. asks_nobody _ _ (ap asked_in is ∙ (changed_is_silent _ _ _).asked)) c.change.ensures.came

pub returns-in-Cut-clause-asked : goal.returns-in-Cut-clause-asked
returns-in-Cut-clause-asked g c = each_ok c.change-in-Cut.result _ _ (λ came is. asks_nobody _ _ (ap asked_in is ∙ (changed_is_silent _ _ _).asked)) c.change-in-Cut.ensures.came

pub returns-in-Ok-Peer-clause-asked : goal.returns-in-Ok-Peer-clause-asked
returns-in-Ok-Peer-clause-asked g c = each_ok c.to_peer.result _ _ (λ came is. asks_nobody _ _ is) c.to_peer.ensures.asked

-- ---- what stays

pub returns-in-Open-clause-homes : goal.returns-in-Open-clause-homes
returns-in-Open-clause-homes g c = same_homes c.open.result c.args.self.now c.open.new.self _ (opened_ends c.args.self.now.net c.in-Open.opening _ _) c.open.ensures.opened c.open.ensures.kept

pub returns-in-Open-clause-devices : goal.returns-in-Open-clause-devices
returns-in-Open-clause-devices g c = same_devices c.open.result c.args.self.now c.open.new.self _ (opened_ends c.args.self.now.net c.in-Open.opening _ _) c.open.ensures.opened c.open.ensures.kept

pub returns-in-Open-clause-world : goal.returns-in-Open-clause-world
returns-in-Open-clause-world g c = c.open.ensures.kept

pub returns-in-Open-clause-centre : goal.returns-in-Open-clause-centre
returns-in-Open-clause-centre g c = on_error c.open.result _ refl

pub returns-in-Start-clause-homes : goal.returns-in-Start-clause-homes
returns-in-Start-clause-homes g c = same_homes c.act.result c.args.self.now c.act.new.self _ (acted_ends c.args.self.now.net deed.Start c.in-Start.session) c.act.ensures.acted c.act.ensures.kept

pub returns-in-Start-clause-devices : goal.returns-in-Start-clause-devices
returns-in-Start-clause-devices g c = same_devices c.act.result c.args.self.now c.act.new.self _ (acted_ends c.args.self.now.net deed.Start c.in-Start.session) c.act.ensures.acted c.act.ensures.kept

pub returns-in-Start-clause-world : goal.returns-in-Start-clause-world
returns-in-Start-clause-world g c = c.act.ensures.kept

pub returns-in-Start-clause-centre : goal.returns-in-Start-clause-centre
returns-in-Start-clause-centre g c = on_error c.act.result _ refl

pub returns-in-Repeat-clause-homes : goal.returns-in-Repeat-clause-homes
returns-in-Repeat-clause-homes g c = same_homes c.act-in-Repeat.result c.args.self.now c.act-in-Repeat.new.self _ (acted_ends c.args.self.now.net deed.Repeat c.in-Repeat.session) c.act-in-Repeat.ensures.acted c.act-in-Repeat.ensures.kept

pub returns-in-Repeat-clause-devices : goal.returns-in-Repeat-clause-devices
returns-in-Repeat-clause-devices g c = same_devices c.act-in-Repeat.result c.args.self.now c.act-in-Repeat.new.self _ (acted_ends c.args.self.now.net deed.Repeat c.in-Repeat.session) c.act-in-Repeat.ensures.acted c.act-in-Repeat.ensures.kept

pub returns-in-Repeat-clause-world : goal.returns-in-Repeat-clause-world
returns-in-Repeat-clause-world g c = c.act-in-Repeat.ensures.kept

pub returns-in-Repeat-clause-centre : goal.returns-in-Repeat-clause-centre
returns-in-Repeat-clause-centre g c = on_error c.act-in-Repeat.result _ refl

pub returns-in-GiveUp-clause-homes : goal.returns-in-GiveUp-clause-homes
returns-in-GiveUp-clause-homes g c = same_homes c.act-in-GiveUp.result c.args.self.now c.act-in-GiveUp.new.self _ (acted_ends c.args.self.now.net (deed.GiveUp c.in-GiveUp.end) c.in-GiveUp.session) c.act-in-GiveUp.ensures.acted c.act-in-GiveUp.ensures.kept

pub returns-in-GiveUp-clause-devices : goal.returns-in-GiveUp-clause-devices
returns-in-GiveUp-clause-devices g c = same_devices c.act-in-GiveUp.result c.args.self.now c.act-in-GiveUp.new.self _ (acted_ends c.args.self.now.net (deed.GiveUp c.in-GiveUp.end) c.in-GiveUp.session) c.act-in-GiveUp.ensures.acted c.act-in-GiveUp.ensures.kept

pub returns-in-GiveUp-clause-world : goal.returns-in-GiveUp-clause-world
returns-in-GiveUp-clause-world g c = c.act-in-GiveUp.ensures.kept

pub returns-in-GiveUp-clause-centre : goal.returns-in-GiveUp-clause-centre
returns-in-GiveUp-clause-centre g c = on_error c.act-in-GiveUp.result _ refl

pub returns-in-Tamper-clause-homes : goal.returns-in-Tamper-clause-homes
returns-in-Tamper-clause-homes g c = same_homes c.change.result c.args.self.now c.change.new.self _ refl c.change.ensures.made c.change.ensures.kept

pub returns-in-Tamper-clause-devices : goal.returns-in-Tamper-clause-devices
returns-in-Tamper-clause-devices g c = same_devices c.change.result c.args.self.now c.change.new.self _ refl c.change.ensures.made c.change.ensures.kept

pub returns-in-Tamper-clause-world : goal.returns-in-Tamper-clause-world
returns-in-Tamper-clause-world g c = c.change.ensures.kept

pub returns-in-Tamper-clause-centre : goal.returns-in-Tamper-clause-centre
returns-in-Tamper-clause-centre g c = on_error c.change.result _ refl

pub returns-in-Cut-clause-homes : goal.returns-in-Cut-clause-homes
returns-in-Cut-clause-homes g c = same_homes c.change-in-Cut.result c.args.self.now c.change-in-Cut.new.self _ refl c.change-in-Cut.ensures.made c.change-in-Cut.ensures.kept

pub returns-in-Cut-clause-devices : goal.returns-in-Cut-clause-devices
returns-in-Cut-clause-devices g c = same_devices c.change-in-Cut.result c.args.self.now c.change-in-Cut.new.self _ refl c.change-in-Cut.ensures.made c.change-in-Cut.ensures.kept

pub returns-in-Cut-clause-world : goal.returns-in-Cut-clause-world
returns-in-Cut-clause-world g c = c.change-in-Cut.ensures.kept

pub returns-in-Cut-clause-centre : goal.returns-in-Cut-clause-centre
returns-in-Cut-clause-centre g c = on_error c.change-in-Cut.result _ refl

pub returns-in-Ok-Server-clause-homes : goal.returns-in-Ok-Server-clause-homes
returns-in-Ok-Server-clause-homes g c = c.to_server.ensures.homes

pub returns-in-Ok-Server-clause-devices : goal.returns-in-Ok-Server-clause-devices
returns-in-Ok-Server-clause-devices g c = c.to_server.ensures.devices

pub returns-in-Ok-Server-clause-world : goal.returns-in-Ok-Server-clause-world
returns-in-Ok-Server-clause-world g c = c.to_server.ensures.world

pub returns-in-Ok-Server-clause-centre : goal.returns-in-Ok-Server-clause-centre
returns-in-Ok-Server-clause-centre g c = c.to_server.ensures.centre

pub returns-in-Ok-Server-clause-asked : goal.returns-in-Ok-Server-clause-asked
returns-in-Ok-Server-clause-asked g c = c.to_server.ensures.asked

pub returns-in-Ok-Server-clause-subs : goal.returns-in-Ok-Server-clause-subs
returns-in-Ok-Server-clause-subs g c = c.to_server.ensures.only.subs_stay

pub returns-in-Ok-Server-clause-top : goal.returns-in-Ok-Server-clause-top
returns-in-Ok-Server-clause-top g c = c.to_server.ensures.only.tops_stay

pub returns-in-Ok-Server-clause-name : goal.returns-in-Ok-Server-clause-name
returns-in-Ok-Server-clause-name g c = c.to_server.ensures.only.name_stays

pub returns-in-Ok-Peer-clause-homes : goal.returns-in-Ok-Peer-clause-homes
returns-in-Ok-Peer-clause-homes g c = ap (map (λ (home : HomeRow). home.sub)) c.to_peer.ensures.homes

pub returns-in-Ok-Peer-clause-devices : goal.returns-in-Ok-Peer-clause-devices
returns-in-Ok-Peer-clause-devices g c = c.to_peer.ensures.devices

pub returns-in-Ok-Peer-clause-world : goal.returns-in-Ok-Peer-clause-world
returns-in-Ok-Peer-clause-world g c = c.to_peer.ensures.world

pub returns-in-Ok-Peer-clause-centre : goal.returns-in-Ok-Peer-clause-centre
returns-in-Ok-Peer-clause-centre g c = on_error c.to_peer.result _ refl
