use Rattle.std.proofs.Common.{◌≡◌, ◌∙◌, ap, subst}
use Rattle.indexmap.specs.IndexMap.{get}
use Rattle.auc_memory.specs.declared.identity_key.IdentityKey.{IdentityKey}
use Rattle.std.specs.Prelude.{slice_get, Some}
use Rattle.auc_subs.specs.Setting.{Setting}
use Rattle.auc_world.proofs.WorldLemmas.{row_place}
use Rattle.auc_world.specs.InnerWorld.{is_key}
use Rattle.auc_world.specs.Net.{device_place}
use Rattle.auc_world.specs.World.{WorldState}
use Rattle.auc_world.proofs.world.World.device_of.Goals as goal

pub returns : goal.returns
returns c =
    let row = c.row.result.now in
    subst (λ (w : WorldState). c.copied.result ≡ device_place c.args.set.now.rows w.net.devices c.args.sub) c.self.view_is
    (c.copied.ensures ∙ c.get.ensures.value ∙ ap (λ (k : IdentityKey). get is_key c.self.inside.places k) c.key-key.ensures ∙ c.self.invariant.placed row.imsi
    ∙ row_place c.args.set.now.rows _ c.args.sub row (subst (λ (set : Setting). slice_get set.rows c.args.sub ≡ Some row) c.set.view_is c.row.ensures.place))
