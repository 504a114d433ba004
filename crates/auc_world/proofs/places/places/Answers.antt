use Rattle.std.proofs.Common.{◌≡◌, ℕ, suc, ◌-◌, ◌∙◌, sym, ap, arith, map, drop, Some, Option, if◌then◌else◌}
use Rattle.indexmap.specs.IndexMap.{get}
use Rattle.auc_memory.specs.declared.identity_key.IdentityKey.{IdentityKey}
use Rattle.auc_peer.specs.Subscription.{subscription_of}
use Rattle.auc_peer.specs.declared.device.Device.{Device}
use Rattle.auc_subs.specs.Subscriber.{same_identity}
use Rattle.auc_memory.specs.IdentityKey.{is_key, key_of}
use Rattle.auc_world.proofs.PlaceLemmas.{first_from, first_is, one_before}
use Rattle.auc_world.proofs.places.places.Goals as goal

pub loop-left-preserved : goal.loop-left-preserved
loop-left-preserved c = record {
  within = omega (arith, c.loop-left.invariant.within);
  small = omega (arith, c.loop-left.invariant.small);
  placed = λ imsi.
      let place : ℕ = c.loop-left.left - 1 in
      let device : Device = c.index-devices-left.result in
      let old : Option ℕ = get is_key c.loop-left.places (key_of imsi) in
      let next : suc place ≡ c.loop-left.left = omega (arith, c.loop-left-test.true) in
      let behind : first_from (suc place) (map subscription_of (drop (suc place) c.args.devices.now)) imsi
      ≡ first_from c.loop-left.left (map subscription_of (drop c.loop-left.left c.args.devices.now)) imsi
      = ap (λ (n : ℕ). first_from n (map subscription_of (drop n c.args.devices.now)) imsi) next in
      c.in_ok-insert.ensures.updates.0 (key_of imsi)
      ∙ ap (λ (k : IdentityKey). if is_key k (key_of imsi) then Some place else old) (c.key.ensures ∙ ap (λ (d : Device). key_of d.imsi) c.device.view_is)
      ∙ ap (λ (r : Option ℕ). if same_identity device.imsi imsi then Some place else r) (c.loop-left.invariant.placed imsi ∙ sym behind)
      ∙ sym (one_before c.args.devices.now place device imsi (omega (arith, c.loop-left.invariant.within, c.loop-left-test.true)) c.index-devices-left.is);
}

pub returns : goal.returns
returns c imsi =
    let none : c.loop-left.left ≡ 0 = omega (arith, c.loop-left-test.false) in
    c.loop-left.invariant.placed imsi ∙ ap (λ (n : ℕ). first_from n (map subscription_of (drop n c.args.devices.now)) imsi) none ∙ first_is (map subscription_of c.args.devices.now) imsi
