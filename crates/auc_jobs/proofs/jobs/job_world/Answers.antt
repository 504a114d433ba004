use Rattle.auc_world.specs.Start.{home_of}
use Rattle.std.proofs.Common.{◌≡◌, ◌∙◌, ap, List, map}
use Rattle.auc_cards.specs.Devices.{OwnDevices}
use Rattle.auc_lines.specs.Part.{held_subs}
use Rattle.auc_peer.specs.declared.device.Device.{Device}
use Rattle.auc_server.specs.declared.setting.HomeRow.{HomeRow}
use Rattle.auc_world.specs.World.{WorldState}
use Rattle.auc_jobs.specs.InnerWorker.{start_world}
use Rattle.auc_jobs.proofs.WorkerLemmas.{new_world, starts}
use Rattle.auc_jobs.proofs.KeepingLemmas.{if_ok_map}
use Rattle.auc_jobs.proofs.jobs.job_world.Goals as goal

pub returns : goal.returns
returns c =
    let homes = c.into_parts-homes.ensures.homes ∙ ap (λ (own : OwnDevices). own.homes) c.in_ok-of_job.ensures in
    let devices = c.into_parts-homes.ensures.devices ∙ ap (λ (own : OwnDevices). own.devices) c.in_ok-of_job.ensures in
    if_ok_map (λ (w : WorldState). w ≡ new_world c.into_parts-homes.result.0.items c.into_parts-homes.result.1.items)
    (λ (w : WorldState). w ≡ start_world c.args.set.now c.args.cards.now.usims c.args.cards.now.kept c.args.job.now) c.new.result
    (λ w is.
    starts c.args.set.now c.args.cards.now.usims c.args.cards.now.kept c.args.job.now w c.requires.rows c.requires.known
    (is ∙ ap (λ (hs : List HomeRow). new_world hs c.into_parts-homes.result.1.items) homes
    ∙ ap (λ (ds : List Device). new_world (map (home_of c.args.cards.now.kept) (held_subs c.args.job.now)) ds) devices)) c.new.ensures
