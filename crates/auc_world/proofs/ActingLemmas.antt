-- For `acting`: what an end does by itself, in each network in which its session stands.
use Rattle.std.proofs.Common.{◌≡◌, ℕ, List, [], true, false, Option, Some, None, Ok, Err, is_some, refl, sym, ap, ◌∙◌, subst}
use Rattle.std.specs.Prelude.{slice_set}
use Rattle.std.proofs.lemmas.List.{append-nil}
use Rattle.auc_hmac.specs.declared.keys.KeySet.{KeySet}
use Rattle.auc_lines.specs.declared.part.End.TheVariants as end
use Rattle.auc_peer.specs.Table.{gave_up as peer_gave_up}
use Rattle.auc_peer.specs.declared.peer.Peer.{Peer}
use Rattle.auc_peer.specs.declared.peer.PeerState.{PeerState}
use Rattle.auc_peer.specs.declared.peer.PeerState.TheVariants as peer_state
use Rattle.auc_vector.specs.declared.why.PeerWhy.{PeerWhy}
use Rattle.auc_server.proofs.Facts.{started_fits}
use Rattle.auc_server.specs.Server.{ServerEnd, started}
use Rattle.auc_server.specs.Table.{gave_up as server_gave_up, repeated, silent}
use Rattle.auc_server.specs.declared.server.ServerState.{ServerState}
use Rattle.auc_server.specs.declared.server.ServerState.TheVariants as state
use Rattle.auc_vector.specs.declared.why.ServerWhy.{ServerWhy}
use Rattle.auc_vector.specs.declared.turn.Step.{Step}
use Rattle.auc_vector.specs.declared.turn.Step.TheVariants as step
use Rattle.auc_world.proofs.FitLemmas.{gave_up_held}
use Rattle.auc_world.proofs.WorldLemmas.{stays}
use Rattle.auc_world.specs.Came.{by_peer, by_server, came_repeated, came_started, packet_number, server_came_to_give_up}
use Rattle.auc_world.specs.Happened.{keys_won, repeat, sent_by, server_gives_up, start, with_peer, with_server}
use Rattle.auc_world.specs.InnerWorld.{Acts, SessionStands, number_after, with_session}
use Rattle.auc_world.specs.Net.{Net, inputs_of_peer, inputs_of_server, posted}
use Rattle.auc_world.specs.World.{HasHeld}
use Rattle.auc_world.specs.declared.acting.Deed.TheVariants as deed
use Rattle.auc_record.specs.declared.event.Note.{Note}
use Rattle.auc_record.specs.declared.event.NoteStep.{NoteStep}
use Rattle.auc_record.specs.declared.event.NoteStep.TheVariants as did
use Rattle.auc_record.specs.declared.event.WorldRefusal.TheVariants as refused
use Rattle.auc_world.specs.declared.net.SentPacket.{SentPacket}
use Rattle.auc_world.specs.declared.net.Session.{Session}

-- the number of the next packet, in a network with some packets
pub numbered : (w : Net) (packets : List SentPacket) (bytes : Option (List ℕ)) → w.packets ≡ packets → packet_number w bytes ≡ number_after packets bytes
numbered w packets None same = refl
numbered w packets (Some bytes) same = ap (λ (ps : List SentPacket). number_after ps (Some bytes)) same

-- a note in which nobody was asked
abbrev pub note_of : NoteStep → Option ℕ → Note
note_of what packet = record { notes = silent; step = what; packet = packet; asked = None; device = None; vector = None }

module _ (w : Net) (place : ℕ) (packets : List SentPacket) (session : Session) (at' : SessionStands w place packets session) where
  -- a server that takes a step, in its session
  pub served : (s : ServerEnd) (what : Step ServerWhy) → with_server w place session [] s what
      ≡ with_session w place (posted packets end.Server (inputs_of_server s) (sent_by what)) (record session { server = Some s })
  served s what = λ j. record w {
    packets = posted (at'.packets_are j) end.Server (inputs_of_server s) (sent_by what);
    sessions = slice_set w.sessions place (record session { server = Some s });
    released = append-nil w.released j;
  }

  noted : (what : Step ServerWhy) → by_server w silent what None None ≡ note_of (did.Server what) (number_after packets (sent_by what))
  noted what = ap (note_of (did.Server what)) (numbered w packets (sent_by what) at'.packets_are)

-- a session without a change
pub same_server : (session : Session) (s : ServerEnd) → session.server ≡ Some s → record session { server = Some s } ≡ session
same_server session s is = λ j. record session { server = sym is j }

-- ---- a server starts

-- one that had started is refused
pub started_before : (packets : List SentPacket) (session : Session) → is_some session.server ≡ true → Acts deed.Start packets session packets session (Err refused.Started)
started_before packets session there = by session.server refl there
  where
    by : (s : Option ServerEnd) → session.server ≡ s → is_some s ≡ true → Acts deed.Start packets session packets session (Err refused.Started)
    by None is there = absurd cc
    by (Some s) is there = record {
      is = λ w place at'. ap (came_started w session.options) (sym is);
      leads = λ w place at'. ap (start w place session) is ∙ stays w place packets session at';
      number = refl;
      options = refl;
      held = λ homes held. held;
    }

-- one that hadn't sends its first request
pub starts : (packets sent : List SentPacket) (session : Session) (s : ServerEnd) (bytes : List ℕ) (packet : Option ℕ) (n : Note)
    → is_some session.server ≡ false → s ≡ started session.options → bytes ≡ (started session.options).last → sent ≡ posted packets end.Server None (Some bytes)
    → packet ≡ number_after packets (Some bytes) → n ≡ note_of (did.Server (step.Sent bytes)) packet
    → Acts deed.Start packets session sent (record session { server = Some s }) (Ok n)
starts packets sent session s bytes packet n none is_s is_bytes is_sent is_packet is_n = by session.server refl none
  where
    first : Step ServerWhy
    first = step.Sent (started session.options).last

    told : n ≡ note_of (did.Server first) (number_after packets (Some (started session.options).last))
    told = is_n ∙ ap (note_of (did.Server (step.Sent bytes))) is_packet ∙ ap (λ (b : List ℕ). note_of (did.Server (step.Sent b)) (number_after packets (Some b))) is_bytes

    went : sent ≡ posted packets end.Server None (Some (started session.options).last)
    went = is_sent ∙ ap (λ (b : List ℕ). posted packets end.Server None (Some b)) is_bytes

    by : (before : Option ServerEnd) → session.server ≡ before → is_some before ≡ false → Acts deed.Start packets session sent (record session { server = Some s }) (Ok n)
    by (Some other) is none = absurd cc
    by None is none = record {
      is = λ w place at'. ap Ok (told ∙ sym (noted w place packets session at' first)) ∙ ap (came_started w session.options) (sym is);
      leads = λ w place at'.
          let changed : with_session w place (posted packets end.Server None (Some (started session.options).last)) (record session { server = Some (started session.options) })
          ≡ with_session w place sent (record session { server = Some s }) = λ j. with_session w place (sym went j) (record session { server = Some (sym is_s j) }) in
          ap (start w place session) is ∙ served w place packets session at' (started session.options) first ∙ changed;
      number = refl;
      options = refl;
      held = λ homes held. subst (λ (t : ServerEnd). HasHeld homes (Some t)) (sym is_s) (tt, tt, started_fits session.options);
    }

-- ---- a server repeats its last request

pub repeats_nothing : (packets : List SentPacket) (session : Session) → session.server ≡ None → Acts deed.Repeat packets session packets session (Err refused.NoSuchEnd)
repeats_nothing packets session is = record {
  is = λ w place at'. ap (came_repeated w) (sym is);
  leads = λ w place at'. ap (repeat w place session) is ∙ stays w place packets session at';
  number = refl;
  options = refl;
  held = λ homes held. held;
}

pub repeats : (packets sent : List SentPacket) (session : Session) (s : ServerEnd) (what : Step ServerWhy) (packet : Option ℕ) (n : Note)
    → session.server ≡ Some s → what ≡ repeated s s.state → sent ≡ posted packets end.Server (inputs_of_server s) (sent_by what)
    → packet ≡ number_after packets (sent_by what) → n ≡ note_of (did.Server what) packet
    → Acts deed.Repeat packets session sent session (Ok n)
repeats packets sent session s what packet n is is_what is_sent is_packet is_n = record {
  is = λ w place at'. ap Ok (is_n ∙ ap (note_of (did.Server what)) is_packet ∙ sym (noted w place packets session at' what)
      ∙ ap (λ (x : Step ServerWhy). by_server w silent x None None) is_what) ∙ ap (came_repeated w) (sym is);
  leads = λ w place at'.
      let changed : with_session w place (posted packets end.Server (inputs_of_server s) (sent_by what)) (record session { server = Some s })
      ≡ with_session w place sent session = λ j. with_session w place (sym is_sent j) (same_server session s is j) in
      ap (repeat w place session) is ∙ ap (with_server w place session [] s) (sym is_what) ∙ served w place packets session at' s what ∙ changed;
  number = refl;
  options = refl;
  held = λ homes held. held;
}

-- ---- an end gives up

gives_nothing : (s : ServerEnd) (now : ServerState) → sent_by (server_gave_up s now).1 ≡ None
gives_nothing s (state.Ended result last) = refl
gives_nothing s state.AwaitIdentity = refl
gives_nothing s (state.Await kind) = refl
gives_nothing s (state.AwaitChallenge sent before) = refl
gives_nothing s (state.AwaitReauth sent) = refl
gives_nothing s (state.Notifying cause last) = refl

pub nobody_gives_up : (packets : List SentPacket) (session : Session) → session.server ≡ None → Acts (deed.GiveUp end.Server) packets session packets session (Err refused.NoSuchEnd)
nobody_gives_up packets session is = record {
  is = λ w place at'. ap (server_came_to_give_up w) (sym is);
  leads = λ w place at'. ap (server_gives_up w place session) is ∙ stays w place packets session at';
  number = refl;
  options = refl;
  held = λ homes held. held;
}

pub server_gives_up_now : (packets : List SentPacket) (session : Session) (s new : ServerEnd) (what : Step ServerWhy) (n : Note)
    → session.server ≡ Some s → (new, what) ≡ server_gave_up s s.state → n ≡ note_of (did.Server what) None
    → Acts (deed.GiveUp end.Server) packets session packets (record session { server = Some new }) (Ok n)
server_gives_up_now packets session s new what n is turn is_n = record {
  is = λ w place at'. ap Ok (is_n ∙ ap (note_of (did.Server what)) (ap (number_after packets) (sym silence)) ∙ sym (noted w place packets session at' what)
      ∙ ap (λ (x : ServerEnd × Step ServerWhy). by_server w silent x.1 None None) turn) ∙ ap (server_came_to_give_up w) (sym is);
  leads = λ w place at'. ap (server_gives_up w place session) is ∙ ap (λ (x : ServerEnd × Step ServerWhy). with_server w place session [] x.0 x.1) (sym turn)
      ∙ served w place packets session at' new what
      ∙ ap (λ (x : Option (List ℕ)). with_session w place (posted packets end.Server (inputs_of_server new) x) (record session { server = Some new })) silence;
  number = refl;
  options = refl;
  held = λ homes held. subst (λ (x : ServerEnd × Step ServerWhy). HasHeld homes (Some x.0)) (sym turn) (gave_up_held homes s s.state (subst (HasHeld homes) is held));
}
  where
    silence : sent_by what ≡ None
    silence = ap (λ (x : ServerEnd × Step ServerWhy). sent_by x.1) turn ∙ gives_nothing s s.state

peer_gives_nothing : (p : Peer) (now : PeerState) → sent_by (peer_gave_up p now).1 ≡ None
peer_gives_nothing p peer_state.Ended = refl
peer_gives_nothing p peer_state.Waiting = refl
peer_gives_nothing p (peer_state.Answered keys) = refl
peer_gives_nothing p (peer_state.Refusing cause) = refl

wins_nothing : (keys : Option KeySet) (p : Peer) (now : PeerState) → keys_won keys (peer_gave_up p now).1 ≡ keys
wins_nothing keys p peer_state.Ended = refl
wins_nothing keys p peer_state.Waiting = refl
wins_nothing keys p (peer_state.Answered other) = refl
wins_nothing keys p (peer_state.Refusing cause) = refl

pub peer_gives_up_now : (packets : List SentPacket) (session : Session) (new : Peer) (what : Step PeerWhy) (n : Note)
    → (new, what) ≡ peer_gave_up session.peer session.peer.state → n ≡ note_of (did.Peer what) None
    → Acts (deed.GiveUp end.Peer) packets session packets (record session { peer = new }) (Ok n)
peer_gives_up_now packets session new what n turn is_n = record {
  is = λ w place at'. ap Ok (is_n ∙ ap (note_of (did.Peer what)) (ap (number_after packets) (sym silence) ∙ sym (numbered w packets (sent_by what) at'.packets_are))
      ∙ ap (λ (x : Peer × Step PeerWhy). by_peer w silent x.1 None) turn);
  leads = λ w place at'.
      let same : with_peer w place session new what ≡ with_session w place packets (record session { peer = new }) = λ j. record w {
        packets = posted (at'.packets_are j) end.Peer (inputs_of_peer session.sub new) (silence j);
        sessions = slice_set w.sessions place (record session { peer = new; peer_keys = kept j });
      } in
      ap (λ (x : Peer × Step PeerWhy). with_peer w place session x.0 x.1) (sym turn) ∙ same;
  number = refl;
  options = refl;
  held = λ homes held. held;
}
  where
    silence : sent_by what ≡ None
    silence = ap (λ (x : Peer × Step PeerWhy). sent_by x.1) turn ∙ peer_gives_nothing session.peer session.peer.state

    kept : keys_won session.peer_keys what ≡ session.peer_keys
    kept = ap (λ (x : Peer × Step PeerWhy). keys_won session.peer_keys x.1) turn ∙ wins_nothing session.peer_keys session.peer session.peer.state
