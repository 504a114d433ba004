-- For the crates that join the runs of several jobs: what an unbroken run keeps, and of which number a success is.
use Rattle.std.proofs.Common.{◌≡◌, ℕ, ◌≤◌, List, None, All, Contains, sym, ap, ◌∙◌, subst}
use Rattle.auc_hmac.specs.declared.keys.KeySet.{KeySet}
use Rattle.auc_ident.specs.Permanent.{username}
use Rattle.auc_released.specs.declared.numbers.Number.{Number}
use Rattle.auc_server.specs.Table.{vector_at}
use Rattle.auc_server.specs.declared.server.Resumed.{Resumed}
use Rattle.auc_subs.specs.Subscriber.{AreSubscribers, top_at}
use Rattle.auc_world.specs.Agreement.{AreOfOneChallenge, AreReleasedOnce, AreSized, AreTold, Happening, HaveSecrets, IsFresh, IsRealm, PeerWon, ServerWon, after}
use Rattle.auc_world.specs.Net.{Net, inputs_of_peer}
use Rattle.auc_world.specs.Resumption.{resumptions}
use Rattle.auc_subs.specs.Setting.{Setting}
use Rattle.auc_world.specs.declared.net.FastInputs.{FastInputs}
use Rattle.auc_world.specs.declared.net.FullInputs.{FullInputs}
use Rattle.auc_world.specs.declared.net.Inputs.TheVariants as inputs_of
use Rattle.auc_world.specs.declared.net.Session.{Session}
use Rattle.auc_world.proofs.AgainLemmas.{AgainOf, AllLaws, at_place_of, begins_again, both_hold, peer_inputs, server_inputs}
use Rattle.auc_world.proofs.AgainListLemmas.{is_resumed}
use Rattle.auc_world.proofs.AgreementLemmas.{HoldsOf, IsDrawn, IsPosted, Laws, SessionFine, accepted_inputs, begins, inputs_at, not_resumed, one_full, one_number}
use Rattle.auc_world.proofs.PremiseLemmas.{honest_run}

-- what holds of a network after an unbroken run from its beginning
pub unbroken_run_holds : AllLaws → (set : Setting) (w : Net) (hs : List Happening) → AreSubscribers set.rows → IsRealm set.realm → HaveSecrets set w.devices → AreSized w.homes → IsFresh w
    → AreTold set w hs → AreReleasedOnce set.rows (after set w hs).released → (after set w hs).broken ≡ None → HoldsOf set (after set w hs) × AgainOf set (after set w hs)
unbroken_run_holds laws set w hs subscribers realm secrets sized new told once unbroken =
    both_hold laws set w hs subscribers realm told (honest_run set w hs unbroken).1 (begins set w secrets new) (begins_again set w sized new) once

contained : {X : Type 0} (P : X → Type 0) (xs : List X) (x : X) → All P xs → Contains xs x → P x
contained P xs x all c = subst P c.2 (all c.0 x c.1)

-- the inputs under which a server ended in Success are of a number that its job released
pub server_success_is_drawn : (set : Setting) (w : Net) (a : Session) (keys : KeySet) (i : FullInputs) → HoldsOf set w → Contains w.sessions a → ServerWon a keys (inputs_of.Full i)
    → IsDrawn set w.released i
server_success_is_drawn set w a keys i h there won =
    let fine = contained (SessionFine set w.devices w.packets) w.sessions a h.fine there in
    h.drawn i ((fine.server won.server won.is).was_posted i won.inputs)

-- and so are those of a peer
pub peer_success_is_drawn : (set : Setting) (w : Net) (b : Session) (keys : KeySet) (j : FullInputs) → HoldsOf set w → Contains w.sessions b → PeerWon b keys (inputs_of.Full j)
    → IsDrawn set w.released j
peer_success_is_drawn set w b keys j h there won =
    let fine = contained (SessionFine set w.devices w.packets) w.sessions b h.fine there in
    let alone = not_resumed b.peer b.sub j won.inputs in
    let done = fine.done keys won.won alone in
    let c = done.is.challenge in
    let p = b.peer in
    let same : inputs_at b.sub c p ≡ j = one_full (inputs_of_peer b.sub p) (inputs_at b.sub c p) j
    (accepted_inputs p b.sub c done.is.was_accepted) won.inputs in
    h.drawn j (subst (IsPosted w.packets) same done.is.was_posted)

-- inputs of a re-authentication are those of one that a server of the job took up
pub record IsOfResumption (sessions : List Session) (i : FastInputs) : Type 0 where
  pub resumed : Resumed
  pub is_in : Contains (resumptions sessions) resumed
  pub sub : resumed.sub ≡ i.sub
  pub identity : resumed.context.identity ≡ username i.identity

-- those under which a server ended in Success
pub server_success_is_resumed : (set : Setting) (w : Net) (a : Session) (keys : KeySet) (i : FastInputs) → AgainOf set w → Contains w.sessions a → ServerWon a keys (inputs_of.Fast i)
    → IsOfResumption w.sessions i
server_success_is_resumed set w a keys i again there won =
    let s = won.server in
    let (place, at_place) = at_place_of w.sessions a there in
    let own = server_inputs s i won.inputs in
    let named = ((again.each place a at_place).server s won.is).taken own.resumed own.has in
    record {
      resumed = own.resumed;
      is_in = is_resumed w.sessions place s own.resumed (record { session = a; there = at_place; is = won.is; has = own.has });
      sub = ap (λ (v : FastInputs). v.sub) own.same;
      identity = sym named.named ∙ ap (λ (v : FastInputs). username v.identity) own.same;
    }

-- and those of a peer
pub peer_success_is_resumed : (set : Setting) (w : Net) (b : Session) (keys : KeySet) (j : FastInputs) → AgainOf set w → Contains w.sessions b → PeerWon b keys (inputs_of.Fast j)
    → IsOfResumption w.sessions j
peer_success_is_resumed set w b keys j again there won =
    let (place, at_place) = at_place_of w.sessions b there in
    let (c, has, is_j) = peer_inputs b.peer b.sub j won.inputs in
    let f = (again.each place b at_place).won keys c won.won has in
    let g = f.source.resumes in
    let named = ((again.each f.source.place g.session g.there).server f.source.server g.is).taken f.resumed g.has in
    let same = f.source.same ∙ is_j in
    record {
      resumed = f.resumed;
      is_in = is_resumed w.sessions f.source.place f.source.server f.resumed g;
      sub = ap (λ (v : FastInputs). v.sub) same;
      identity = sym named.named ∙ ap (λ (v : FastInputs). username v.identity) same;
    }

-- inputs of one challenge are of one number, whichever jobs released it
pub one_challenge_is_of_one_number : Laws → (set : Setting) (released others : List Number) (i j : FullInputs) → AreSubscribers set.rows
    → All (λ number. number.n ≤ top_at set.rows number.sub) released → All (λ number. number.n ≤ top_at set.rows number.sub) others
    → (d : IsDrawn set released i) → (e : IsDrawn set others j) → AreOfOneChallenge i j → d.n ≡ e.n
one_challenge_is_of_one_number laws set released others i j subscribers within also_within d e alike =
    let m = contained (λ (number : Number). number.n ≤ top_at set.rows number.sub) released (record { sub = i.sub; n = d.n }) within d.is_in in
    let n = contained (λ (number : Number). number.n ≤ top_at set.rows number.sub) others (record { sub = j.sub; n = e.n }) also_within e.is_in in
    one_number laws set d.options e.options i.sub d.n e.n d.vector e.vector subscribers d.of_number (ap (λ (k : ℕ). vector_at set e.options k e.n) alike.sub ∙ e.of_number)
    (sym d.rand ∙ alike.rand ∙ e.rand) (sym d.autn ∙ alike.autn ∙ e.autn) m (subst (λ (k : ℕ). e.n ≤ top_at set.rows k) (sym alike.sub) n)
