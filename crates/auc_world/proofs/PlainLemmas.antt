-- For Plain: a plain session goes from its start to Success at both ends, one packet after the other.
use Rattle.std.proofs.Common.{◌≡◌, ◌⊎◌, ℕ, ◌-◌, ◌≤◌, ◌==◌, Bool, true, false, List, [], ◌∷◌, ◌++◌, length, Option, Some, None, slice_get, refl, sym, ap, ◌∙◌, subst, arith, ⊎_elim, inl, inr, append_assoc}
use Rattle.std.proofs.lemmas.Bool.{and_from, eqb-true}
use Rattle.std.proofs.lemmas.List.Quantifiers.{position-Some}
use Rattle.std.proofs.lemmas.Option.{get_or_from_slice_get}
use Rattle.std.proofs.lemmas.Slice.Eq.{bytes_eq-Decides}
use Rattle.std.proofs.lemmas.Bool.Decides.{nat_tests}
use Rattle.std.specs.Prelude.{nat_le, slice_index, ◌&&◌}
use Rattle.std.specs.Str.{bytes_eq}
use Rattle.auc_hmac.specs.declared.keys.KeySet.{KeySet}
use Rattle.auc_hmac.specs.declared.method.Method.{Method}
use Rattle.auc_hmac.specs.declared.method.Method.TheVariants as method
use Rattle.auc_lines.specs.declared.part.SessionLine.{SessionLine}
use Rattle.auc_lines.specs.declared.part.End.TheVariants as end
use Rattle.auc_aes.proofs.Facts.{length_xor}
use Rattle.auc_aes.specs.Bytes.{IsBlock, xor}
use Rattle.auc_milenage.proofs.Facts.{f5_size}
use Rattle.auc_milenage.specs.Milenage.{auts, f1, f5}
use Rattle.auc_packet.specs.Sealed.{draft_mac, sealed}
use Rattle.auc_packet.specs.Laws.{has_values}
use Rattle.auc_packet.specs.Received.{IsReceived, Seen}
use Rattle.auc_packet.specs.Spelling.{packet_text}
use Rattle.auc_packet.specs.declared.packet.Packet.TheVariants as packet
use Rattle.auc_attr.specs.declared.attr.Attr.TheVariants as attr
use Rattle.auc_peer.specs.Messages.{draft_of, response_bytes, sync_failure}
use Rattle.auc_peer.specs.Rows.{is_last, repeats}
use Rattle.auc_peer.specs.Subscription.{Subscription}
use Rattle.auc_peer.specs.Table.{kept_by, new_peer, noted, peer_step}
use Rattle.auc_peer.specs.declared.peer.Peer.{Peer}
use Rattle.auc_peer.specs.declared.peer.PeerState.TheVariants as peer_state
use Rattle.auc_peer.specs.declared.rows.Row.{Row as PeerRow}
use Rattle.auc_peer.specs.Turn.{Decrypts, asked, decryption_made, decryption_noted}
use Rattle.auc_server.proofs.Facts.{challenge_may}
use Rattle.auc_server.specs.Messages.{challenge_bytes, challenge_draft}
use Rattle.auc_server.specs.Rounds.{checkcode}
use Rattle.auc_server.specs.Table.{next_id}
use Rattle.auc_server.specs.declared.naming.GivenNames.{GivenNames}
use Rattle.auc_reauth.specs.Device.{Keeps}
use Rattle.auc_server.specs.Server.{ServerEnd, started}
use Rattle.auc_subs.specs.Setting.{Setting}
use Rattle.auc_server.specs.declared.options.ServerOptions.{ServerOptions}
use Rattle.auc_subs.specs.Subscriber.{IsRow}
use Rattle.auc_subs.specs.declared.row.Row.{Row}
use Rattle.auc_random.specs.Random.{rand_of}
use Rattle.auc_sqn.specs.Number.{sqn_bytes}
use Rattle.auc_vector.specs.Vector.{autn_of}
use Rattle.auc_vector.specs.declared.why.PeerWhy.{PeerWhy}
use Rattle.auc_vector.specs.declared.notes.Notes.{Notes}
use Rattle.auc_vector.specs.declared.notes.UsimNote.{UsimNote}
use Rattle.auc_vector.specs.declared.notes.UsimNote.TheVariants as usim
use Rattle.auc_vector.specs.declared.parts.Vector.{Vector}
use Rattle.auc_vector.specs.declared.turn.Outcome.TheVariants as outcome
use Rattle.auc_vector.specs.declared.turn.Step.TheVariants as step
use Rattle.auc_vector.specs.declared.turn.Turn.{Turn}
use Rattle.auc_vector.specs.declared.why.ServerWhy.{ServerWhy}
use Rattle.auc_world.proofs.PlainAnswerLemmas.{IsChallenged, challenged_row, ends, responds, sends_sync}
use Rattle.auc_world.proofs.PlainHiddenLemmas.{challenge_values}
use Rattle.auc_world.proofs.PlainKeyLemmas.{checkcode_hash, k_encr_block, names_fit}
use Rattle.auc_world.proofs.PlainMessageLemmas.{response_may, success_may, sync_may}
use Rattle.auc_world.proofs.PlainNetLemmas.{OnWay, Stands, peer_sends, peer_stays, peer_takes, server_new, server_sends, server_takes, starts}
use Rattle.auc_world.proofs.PlainPacketLemmas.{Laws, reads_itself, reads_sealed}
use Rattle.auc_world.proofs.PlainPeerLemmas.{PassesBy, WaitsOn, of_vector, right_name}
use Rattle.auc_world.proofs.PlainRoundLemmas.{challenged}
use Rattle.auc_world.proofs.PlainStageLemmas.{Challenged, IsOf, device_of, first_server, next_differs, with_ends}
use Rattle.auc_world.proofs.PlainServerLemmas.{challenge_with, challenges_again, keys_under, vector_for, wins}
use Rattle.auc_world.proofs.PlainToldLemmas.{Early, IsQuiet, Late, at_first, is_spared}
use Rattle.auc_world.proofs.PlainUsimLemmas.{Accepts, Reports, usim_answers}
use Rattle.auc_world.proofs.PlainVectorLemmas.{autn_size, auts_size, f2_size, rand_block}
use Rattle.auc_record.proofs.Facts.{all_at}
use Rattle.auc_world.specs.Came.{session_at, session_of}
use Rattle.auc_world.specs.Given.{UsimNotes}
use Rattle.auc_world.specs.Net.{Net, session_place}
use Rattle.auc_world.specs.Happened.{peer_options, server_options}
use Rattle.auc_world.specs.Plain.{EachPlainSessionSucceeds, EndsSuit, EndsSuitBy, Succeeds, sqn_reported}
use Rattle.auc_world.specs.Sessions.{keys_in, same_keys, verdict_with}
use Rattle.auc_world.specs.Start.{subscription_at, subscription_by}
use Rattle.auc_world.specs.declared.net.Session.{Session}

-- ---- the answer to a challenge

-- the keys of a number's vector under an identity
abbrev keys_with : Setting → SessionLine → ℕ → Row → List ℕ → ℕ → KeySet
keys_with set opening sub home text n = keys_under (server_options opening) text (vector_for set (server_options opening) sub home n)

second_byte : (o : ServerOptions) (realm : List ℕ) (id : ℕ) (v : Vector) (keys : KeySet) (given : Option GivenNames) (check : List ℕ) → slice_index (challenge_bytes o realm id v keys given check) 1 ≡ id
unfolding challenge_bytes
second_byte o realm id v keys given check = refl

first_byte : (o : ServerOptions) (realm : List ℕ) (id : ℕ) (v : Vector) (keys : KeySet) (given : Option GivenNames) (check : List ℕ) → slice_index (challenge_bytes o realm id v keys given check) 0 ≡ 1
unfolding challenge_bytes
first_byte o realm id v keys given check = refl

challenge_is : (o : ServerOptions) (realm : List ℕ) (id : ℕ) (v : Vector) (keys : KeySet) (given : Option GivenNames) (check : List ℕ)
    → challenge_bytes o realm id v keys given check ≡ sealed keys.k_aut [] (challenge_draft o realm id v.rand v.autn keys.k_encr given check)
unfolding challenge_bytes
challenge_is o realm id v keys given check = refl

sync_values : (m : Method) (id : ℕ) (auts : List ℕ) → has_values (sync_failure m id auts) ≡ true
sync_values method.Aka id auts = refl
sync_values method.Prime id auts = refl

response_is : (m : Method) (id : ℕ) (k_aut res own : List ℕ) → response_bytes m id k_aut res true own ≡ sealed k_aut [] (draft_of m id (attr.Res res ∷ attr.Checkcode own ∷ []))
unfolding response_bytes
response_is m id k_aut res own = refl

-- ---- the top bit of AMF

-- where a list ends, the next one begins
at_end : (front rest : List ℕ) → slice_index (front ++ rest) (length front) ≡ slice_index rest 0
at_end [] rest = refl
at_end (x ∷ front) rest = at_end front rest

begins : (amf mac : List ℕ) → length amf ≡ 2 → slice_index (amf ++ mac) 0 ≡ slice_index amf 0
begins [] mac two = absurd (omega (arith, two))
begins (x ∷ rest) mac two = refl

-- AMF stands behind the six bytes of the masked SQN in AUTN
amf_at : (k opc rand amf : List ℕ) (bits n : ℕ) → IsBlock k → IsBlock opc → length amf ≡ 2 → slice_index (autn_of k opc rand amf bits n) 6 ≡ slice_index amf 0
unfolding autn_of
amf_at k opc rand amf bits n hk ho two =
    let sqn = sqn_bytes bits n in
    let six : length sqn ≡ 6 = refl in
    let ak = f5 k opc rand in
    let masked : length (xor sqn ak) ≡ 6 = length_xor sqn ak (six ∙ sym (f5_size k opc rand hk ho)) ∙ six in
    let mac = f1 k opc rand sqn amf in
    let rest = amf ++ mac in
    ap (λ (l : List ℕ). slice_index l 6) (append_assoc (xor sqn ak) amf mac) ∙ ap (slice_index (xor sqn ak ++ rest)) (sym masked) ∙ at_end (xor sqn ak) rest ∙ begins amf mac two

passes_by : (m : Method) (opening : SessionLine) (amf autn : List ℕ) → EndsSuitBy m amf opening → slice_index autn 6 ≡ slice_index amf 0 → PassesBy m autn opening
passes_by method.Aka opening amf autn suits at' = suits
passes_by method.Prime opening amf autn suits at' =
    let top = suits.separated in
    (ap (nat_le 128) at' ∙ reaches (slice_index amf 0) top, right_name opening.peer_name opening.name suits.some suits.named)
  where
    reaches : (byte : ℕ) → 128 ≤ byte → nat_le 128 byte ≡ true
    reaches byte top = grind (arith, nat_tests, top)

-- the peer answered with RES
record Answered (set : Setting) (opening : SessionLine) (number : ℕ) (s : Session) (home : Row) (keeps : Keeps) (text : List ℕ) (packets : List (List ℕ)) (id n : ℕ) (q : ServerEnd) (syncs : ℕ) (next : Net) : Type 0 where
  p : Peer
  answered_is : p.state ≡ peer_state.Answered (keys_with set opening s.sub home text n)
  last_id : is_last p.last id ≡ true
  new : (bytes : List ℕ) → slice_index bytes 0 ≡ 3 → repeats p.last bytes ≡ false
  way : OnWay set Late number end.Server (with_ends s q p) (device_of set home) keeps
      (response_bytes opening.method id (keys_with set opening s.sub home text n).k_aut (vector_for set (server_options opening) s.sub home n).xres true (checkcode opening.method packets)) syncs next

-- or with a synchronisation failure
record Reported (set : Setting) (opening : SessionLine) (number : ℕ) (s : Session) (home : Row) (keeps : Keeps) (text : List ℕ) (packets : List (List ℕ)) (id n : ℕ) (q : ServerEnd) (syncs : ℕ) (next : Net) : Type 0 where
  p : Peer
  sqn : List ℕ
  six : length sqn ≡ 6
  waits : WaitsOn opening p text packets id
  some : 1 ≤ syncs
  way : OnWay set Late number end.Server (with_ends s q p) (device_of set home) keeps
      (packet_text (sync_failure opening.method id (auts home.secret.k home.secret.opc (rand_of set.key s.sub n) sqn))) (syncs - 1) next

-- a peer takes the challenge
taken : (set : Setting) (opening : SessionLine) (number : ℕ) (s : Session) (home : Row) (keeps : Keeps) (id : ℕ) (synced : Bool) (syncs : ℕ) (next : Net) → IsOf set opening s.sub home keeps
    → (c : Challenged set opening number s home keeps id synced syncs next) → (seen : Seen) → IsReceived seen
    → seen.bytes ≡ challenge_with set (server_options opening) s.sub home c.text id c.n c.given c.packets
    → (mac : List ℕ) × IsChallenged opening (device_of set home) c.p seen c.text c.packets id set.realm (vector_for set (server_options opening) s.sub home c.n).rand (vector_for set (server_options opening) s.sub home c.n).autn
    c.given mac (keys_with set opening s.sub home c.text c.n)
taken set opening number s home keeps id synced syncs next of c seen received are =
    let o = server_options opening in
    let v = vector_for set o s.sub home c.n in
    let keys = keys_with set opening s.sub home c.text c.n in
    let check = checkcode opening.method c.packets in
    let row = of.is_row in
    let rand_is = rand_block set.key s.sub c.n in
    let block : IsBlock keys.k_encr = k_encr_block opening.method c.text v.ik v.ck in
    let draft = challenge_draft o set.realm id v.rand v.autn keys.k_encr c.given check in
    let may = challenge_may o set.realm id v.rand v.autn keys.k_encr c.given check of.suits.short rand_is.size (autn_size home.secret.k home.secret.opc v.rand home.amf home.bits c.n row.key row.operator rand_is row.management)
    (names_fit of.laws.may_be_hidden set.realm keys.k_encr c.given of.realm.short of.realm.bytes block c.names) (checkcode_hash opening.method c.packets) in
    let read = reads_sealed of.laws keys.k_aut draft seen may (challenge_values opening.method opening.name opening.bidding set.realm v.rand v.autn keys.k_encr c.given check) received
    (are ∙ challenge_is o set.realm id v keys c.given check) in (
      draft_mac keys.k_aut [] draft,
      record {
        waits = c.waits;
        passes = passes_by opening.method opening home.amf v.autn of.suits.by (amf_at home.secret.k home.secret.opc v.rand home.amf home.bits c.n row.key row.operator row.management);
        is = read.0;
        first = ap (λ (l : List ℕ). slice_index l 0) are ∙ first_byte o set.realm id v keys c.given check;
        second = ap (λ (l : List ℕ). slice_index l 1) are ∙ second_byte o set.realm id v keys c.given check;
        keys_are = refl;
        right = read.1;
        block = block;
        names = c.names;
        short = of.realm.short;
        also = of.realm.bytes;
      },
    )

answers : (set : Setting) (opening : SessionLine) (number : ℕ) (s : Session) (home : Row) (keeps : Keeps) (id : ℕ) (synced : Bool) (syncs : ℕ) (next : Net) → IsOf set opening s.sub home keeps
    → (c : Challenged set opening number s home keeps id synced syncs next)
    → Answered set opening number s home keeps c.text c.packets id c.n c.q syncs next ⊎ Reported set opening number s home keeps c.text c.packets id c.n c.q syncs next
answers set opening number s home keeps id synced syncs next of c =
    let device = device_of set home in
    let v = vector_for set (server_options opening) s.sub home c.n in
    let keys = keys_with set opening s.sub home c.text c.n in
    let row = of.is_row in
    let bytes = challenge_with set (server_options opening) s.sub home c.text id c.n c.given c.packets in
    let took = peer_takes set Late number (with_ends s c.q c.p) device keeps bytes syncs next c.way in
    let told = took.told in
    let seen = told.seen in
    let (mac, h) = taken set opening number s home keeps id synced syncs next of c seen took.received took.are in
    let row_is = challenged_row opening device c.p seen c.text c.packets id set.realm v.rand v.autn c.given mac keys h in
    let same = ap (λ (r : PeerRow). kept_by r c.p None keeps) row_is in
    let usim_is : UsimNotes home.secret took.row took.past (Some (of_vector v.rand v.autn)) told.notes.usim =
    subst (λ (r : PeerRow). UsimNotes home.secret took.row took.past (asked r) told.notes.usim) row_is took.usim in
    let decrypts : Decrypts (decryption_noted device c.p seen (Some (of_vector v.rand v.autn)) told.notes.usim) told.inner =
    subst (λ (r : PeerRow). Decrypts (decryption_made device keeps c.p seen r told.notes.usim) told.inner) row_is took.decrypts in
    ⊎_elim
    (λ (a : Accepts told.notes.usim).
    let r = responds of.laws set.key opening device keeps c.p seen c.text c.packets id set.realm v.rand v.autn c.given mac keys a.0 told.inner h
    (subst (λ (o : Option UsimNote). Decrypts (decryption_noted device c.p seen (Some (of_vector v.rand v.autn)) o) told.inner) a.1 decrypts) in
    inl (record {
      p = r.z;
      answered_is = r.answered_is;
      last_id = r.last_id;
      new = r.new;
      way = peer_sends set Late number (with_ends s c.q c.p) device keeps bytes syncs syncs next took r.z (noted (Some (usim.Accepted r.accepted_sqn)))
          (response_bytes opening.method id keys.k_aut v.xres true (checkcode opening.method c.packets)) true (record { resumed = refl; drawn = refl; taken = refl }) same
          (ap (λ (o : Option UsimNote). peer_step set.key device keeps c.p seen o told.inner) a.1 ∙ r.turn_is) (omega arith);
    }))
    (λ (b : Reports told.notes.usim).
    let r = sends_sync set.key opening device keeps c.p seen c.text c.packets id v.rand v.autn b.0 told.inner c.waits row_is h.is.head h.second in
    let one : length (sqn_reported told.notes.usim) ≡ 1 = ap (λ (o : Option UsimNote). length (sqn_reported o)) b.1 in
    inr (record {
      p = r.z;
      sqn = b.0;
      six = b.2;
      waits = r.waits;
      some = subst (λ (k : ℕ). k ≤ syncs) one (subst (λ (n : Notes). length (sqn_reported n.usim) ≤ syncs) took.noted (is_spared Late s.sub syncs took.e took.note took.lines took.tell).once);
      way = peer_sends set Late number (with_ends s c.q c.p) device keeps bytes syncs (syncs - 1) next took r.z (noted (Some (usim.Sync b.0)))
          (packet_text (sync_failure opening.method id (auts home.secret.k home.secret.opc v.rand b.0))) false (record { resumed = refl; drawn = refl; taken = refl }) same
          (ap (λ (o : Option UsimNote). peer_step set.key device keeps c.p seen o told.inner) b.1 ∙ r.turn_is) (omega (arith, one));
    }))
    (usim_answers of.laws home.secret took.row took.past v.rand home.amf home.bits c.n told.notes.usim row.key row.operator row.management usim_is)

-- ---- the second challenge

challenged_again : (set : Setting) (opening : SessionLine) (number : ℕ) (s : Session) (home : Row) (keeps : Keeps) (id : ℕ) (next : Net) → IsOf set opening s.sub home keeps
    → (c : Challenged set opening number s home keeps id false 1 next) → Reported set opening number s home keeps c.text c.packets id c.n c.q 1 next
    → Challenged set opening number s home keeps (next_id id) true 0 next
challenged_again set opening number s home keeps id next of c r =
    let device = device_of set home in
    let o = server_options opening in
    let row = of.is_row in
    let rand = rand_of set.key s.sub c.n in
    let answer = auts home.secret.k home.secret.opc rand r.sqn in
    let long : length answer ≡ 14 = auts_size home.secret.k home.secret.opc rand r.sqn row.key row.operator (rand_block set.key s.sub c.n) r.six in
    let took = server_takes set Late number (with_ends s c.q r.p) device keeps (packet_text (sync_failure opening.method id answer)) c.q 0 next refl r.way in
    let told = took.told in
    let is = reads_itself of.laws told.seen (sync_failure opening.method id answer) (sync_may opening.method id answer long) (sync_values opening.method id answer) took.received took.are in
    let d = challenges_again of.laws set took.homes c.q told.seen told.reply o s.sub home c.text id c.n c.packets r.sqn told.notes c.awaits of.there row.key row.operator r.six is took.centre took.notes took.spare.given took.spare.resolved in
    record {
      q = d.q;
      p = r.p;
      text = c.text;
      packets = c.packets;
      n = d.n;
      given = d.given;
      names = d.names;
      awaits = d.awaits;
      waits = r.waits (next_id id) (next_differs id);
      way = server_sends set Late Late number (with_ends s c.q r.p) device keeps (packet_text (sync_failure opening.method id answer)) c.q 0 next took d.q d.notes
          (challenge_with set o s.sub home c.text (next_id id) d.n d.given c.packets) d.checked took.spare.later tt d.is;
    }

-- ---- Success

-- keys are the same as themselves
same_itself : (k : KeySet) → same_keys k k ≡ true
same_itself k =
    let e : (l : List ℕ) → bytes_eq l l ≡ true = λ l. (bytes_eq-Decides l l).1 refl in
    and_from (bytes_eq k.k_encr k.k_encr) (bytes_eq k.k_aut k.k_aut && (bytes_eq k.k_re k.k_re && (bytes_eq k.msk k.msk && bytes_eq k.emsk k.emsk))) (e k.k_encr)
    (and_from (bytes_eq k.k_aut k.k_aut) (bytes_eq k.k_re k.k_re && (bytes_eq k.msk k.msk && bytes_eq k.emsk k.emsk)) (e k.k_aut)
    (and_from (bytes_eq k.k_re k.k_re) (bytes_eq k.msk k.msk && bytes_eq k.emsk k.emsk) (e k.k_re) (and_from (bytes_eq k.msk k.msk) (bytes_eq k.emsk k.emsk) (e k.msk) (e k.emsk))))

pub verdict_is : (session number : ℕ) (keys : KeySet) (won : Option KeySet) → (session == number) ≡ true → won ≡ Some keys
    → verdict_with session won (Some keys) ≡ record { session = number; agree = true } ∷ []
verdict_is session number keys won same is =
    ap (λ (o : Option KeySet). verdict_with session o (Some keys)) is ∙ ap (λ (b : Bool). record { session = session; agree = b } ∷ []) (same_itself keys)
    ∙ ap (λ (t : ℕ). record { session = t; agree = true } ∷ []) (eqb-true session number same)

-- Success begins with its code
pub begins_success : (bytes : List ℕ) (id : ℕ) → bytes ≡ packet_text (packet.Success id) → slice_index bytes 0 ≡ 3
begins_success bytes id e = ap (λ (l : List ℕ). slice_index l 0) e

finishes : (set : Setting) (opening : SessionLine) (number : ℕ) (s : Session) (home : Row) (keeps : Keeps) (id : ℕ) (synced : Bool) (syncs : ℕ) (next : Net) → IsOf set opening s.sub home keeps → (s.number == number) ≡ true
    → (c : Challenged set opening number s home keeps id synced syncs next) → Answered set opening number s home keeps c.text c.packets id c.n c.q syncs next → Succeeds next number
finishes set opening number s home keeps id synced syncs next of own c a =
    let device = device_of set home in
    let m = opening.method in
    let v = vector_for set (server_options opening) s.sub home c.n in
    let keys = keys_with set opening s.sub home c.text c.n in
    let check = checkcode m c.packets in
    let row = of.is_row in
    let draft = draft_of m id (attr.Res v.xres ∷ attr.Checkcode check ∷ []) in
    let took = server_takes set Late number (with_ends s c.q a.p) device keeps (response_bytes m id keys.k_aut v.xres true check) c.q syncs next refl a.way in
    let told = took.told in
    let read = reads_sealed of.laws keys.k_aut draft told.seen (response_may m id v.xres check (f2_size home.secret.k home.secret.opc v.rand row.key row.operator) (checkcode_hash m c.packets)) refl took.received
    (took.are ∙ response_is m id keys.k_aut v.xres check) in
    let w = wins set took.homes c.q told.seen told.reply (server_options opening) s.sub c.text id v synced c.packets (draft_mac keys.k_aut [] draft) told.notes c.awaits read.0 read.1 in
    let win : ServerEnd × Turn ServerWhy = (w.q, record { notes = w.won; step = step.Ended (outcome.Success keys) (packet_text (packet.Success id)); checked = true }) in
    let last = peer_takes set Late number (with_ends s w.q a.p) device keeps (packet_text (packet.Success id)) (syncs - length (sqn_reported told.notes.usim)) next (took.goes Late win w.turn took.spare.later tt).0 in
    let seen = last.told.seen in
    let is = reads_itself of.laws seen (packet.Success id) (success_may id) refl last.received last.are in
    let e = ends set.key device keeps a.p seen last.told.notes.usim id keys last.told.inner a.answered_is a.last_id (a.new seen.bytes (begins_success seen.bytes id last.are)) is in
    let won : keys_in w.q.state ≡ Some keys = ap keys_in w.ended_is in
    record {
      own = record s { server = Some w.q; peer = e.z; peer_keys = Some keys };
      is = (last.goes (e.z, record { notes = noted None; step = step.Ended (outcome.Success keys) []; checked = false }) e.turn_is
          (peer_stays set Late number (with_ends s w.q a.p) device keeps (packet_text (packet.Success id)) (syncs - length (sqn_reported told.notes.usim)) next last
          (subst IsQuiet (sym (last.notes ∙ ap (λ (t : Peer × Turn PeerWhy). t.1.notes) e.turn_is)) (record { resumed = refl; drawn = refl; taken = refl })))).0;
      keys = keys;
      server = won;
      peer = refl;
      verdict = verdict_is s.number number keys (keys_in w.q.state) own won;
    }

-- ---- the run

runs : (set : Setting) (opening : SessionLine) (number : ℕ) (s : Session) (home : Row) (keeps : Keeps) (next : Net) → IsOf set opening s.sub home keeps → (s.number == number) ≡ true
    → OnWay set Early number end.Peer (with_ends s (first_server opening) (new_peer (peer_options opening))) (device_of set home) keeps (first_server opening).last 1 next → Succeeds next number
runs set opening number s home keeps next of own way =
    let (id, c) = challenged set opening number s home keeps next of way in
    ⊎_elim
    (λ (a : Answered set opening number s home keeps c.text c.packets id c.n c.q 1 next). finishes set opening number s home keeps id false 1 next of own c a)
    (λ (r : Reported set opening number s home keeps c.text c.packets id c.n c.q 1 next).
    let d = challenged_again set opening number s home keeps id next of c r in
    ⊎_elim
    (λ (a : Answered set opening number s home keeps d.text d.packets (next_id id) d.n d.q 0 next). finishes set opening number s home keeps (next_id id) true 0 next of own d a)
    (λ (t : Reported set opening number s home keeps d.text d.packets (next_id id) d.n d.q 0 next). let some = t.some in absurd (omega (arith, some)))
    (answers set opening number s home keeps (next_id id) true 0 next of d))
    (answers set opening number s home keeps id false 1 next of c)

-- ---- its beginning

-- the place of a session
pub record IsThere (w : Net) (number : ℕ) (s : Session) : Type 0 where
  pub place : ℕ
  pub stands : Stands w number place s

pub there_at : (w : Net) (number : ℕ) (s : Session) → session_of w number ≡ Some s → IsThere w number s
there_at w number s e = by (session_place w.sessions number) refl e
  where
    by : (o : Option ℕ) → session_place w.sessions number ≡ o → session_at w o ≡ Some s → IsThere w number s
    by None at' is = absurd cc
    by (Some place) at' is = record {
      place = place;
      stands = record {
        numbered = at';
        there = is;
        own = ap (λ (x : Session). x.number == number) (sym (get_or_from_slice_get w.sessions place s s is)) ∙ (position-Some (λ (x : Session). x.number == number) w.sessions place s at').1;
      };
    }

-- the row of a device that is a subscriber's own
record HasRow (set : Setting) (sub : ℕ) (device : Subscription) : Type 0 where
  pub home : Row
  pub listed : slice_get set.rows sub ≡ Some home
  pub same : device ≡ device_of set home

row_of_device : (set : Setting) (sub : ℕ) (device : Subscription) → subscription_at set sub ≡ device ∷ [] → HasRow set sub device
row_of_device set sub device e = by (slice_get set.rows sub) refl e
  where
    one : (a b : Subscription) → a ∷ [] ≡ b ∷ [] → b ≡ a
    one a b f = cc

    by : (o : Option Row) → slice_get set.rows sub ≡ o → subscription_by set o ≡ device ∷ [] → HasRow set sub device
    by None listed f = absurd cc
    by (Some home) listed f = record { home = home; listed = listed; same = one (device_of set home) device f }

pub plain_succeeds : Laws → EachPlainSessionSucceeds
plain_succeeds laws set before net next number lines subscribers realm ready gives well =
    let s = ready.own in
    let opening = ready.opening in
    let at' = there_at net number s ready.is in
    let row = row_of_device set s.sub ready.device ready.subscribed in
    let home = row.home in
    let is_row = all_at IsRow set.rows s.sub home subscribers.each row.listed in
    let suits : EndsSuit home opening = subst (λ (r : Row). EndsSuit r opening) (one_row (slice_get set.rows s.sub) ready.row home ready.listed row.listed) ready.suits in
    let keeps = ready.keeps in
    let way = starts set Early before net next number at'.place s ready.device keeps 1 lines at'.stands ready.server ready.there ready.stored gives (at_first s.sub 1 lines well) (ready.sized, ready.held) in
    let own = subst (λ (d : Subscription). OnWay set Early number end.Peer (server_new s (started s.options)) d keeps (started s.options).last 1 next) row.same way in
    let by = subst (λ (o : ServerOptions). OnWay set Early number end.Peer (server_new s (started o)) (device_of set home) keeps (started o).last 1 next) ready.options own in
    let new = subst (λ (p : Peer). OnWay set Early number end.Peer (with_ends s (first_server opening) p) (device_of set home) keeps (first_server opening).last 1 next) ready.peer by in
    runs set opening number s home keeps next (record {
      laws = laws;
      subscribers = subscribers;
      there = row.listed;
      is_row = is_row;
      suits = suits;
      realm = realm;
      pseudonym = ready.pseudonym;
      context = ready.context;
    }) at'.stands.own new
  where
    one_row : (o : Option Row) (a b : Row) → o ≡ Some a → o ≡ Some b → a ≡ b
    one_row o a b e f = cc
