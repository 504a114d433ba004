-- For plain sessions: the turns of a peer that sends an identity, and the row of a Challenge.
use Rattle.std.proofs.Common.{◌≡◌, ℕ, ◌≤◌, ◌==◌, ◌||◌, Bool, true, false, not, if◌then◌else◌, List, [], ◌∷◌, length, Option, Some, None, refl, sym, ap, ◌∙◌, arith}
use Rattle.std.specs.Prelude.{◌&&◌, slice_index}
use Rattle.std.proofs.lemmas.Slice.Eq.{bytes_eq-Decides}
use Rattle.std.specs.Str.{bytes_eq}
use Rattle.auc_hmac.specs.declared.method.Method.{Method}
use Rattle.auc_hmac.specs.declared.method.Method.TheVariants as method
use Rattle.auc_lines.specs.declared.part.SessionLine.{SessionLine}
use Rattle.auc_packet.specs.Head.{head_as, head_at}
use Rattle.auc_packet.specs.Received.{Seen, packet_in}
use Rattle.auc_packet.specs.Sealed.{with_mac}
use Rattle.auc_packet.specs.Spelling.{MayBeWritten, packet_text}
use Rattle.auc_packet.specs.declared.packet.Packet.TheVariants as packet
use Rattle.auc_packet.specs.Packet.{method_type}
use Rattle.auc_packet.specs.declared.received.Reading.TheVariants as reading
use Rattle.auc_packet.specs.declared.subtype.Subtype.TheVariants as subtype
use Rattle.auc_peer.specs.Attributes.{id_in}
use Rattle.auc_peer.specs.Identities.{asked_text, first_text}
use Rattle.auc_peer.specs.Messages.{identified as identity_answer, identity_response}
use Rattle.auc_peer.specs.Rows.{of_kind, peer_row, repeats, row_headed, row_in, waiting}
use Rattle.auc_peer.specs.Subscription.{Subscription}
use Rattle.auc_peer.specs.Table.{new_peer, noted, peer_does, peer_step}
use Rattle.auc_peer.specs.Told.{ToldSession}
use Rattle.auc_peer.specs.declared.decrypted.Decrypted.{Decrypted}
use Rattle.auc_peer.specs.declared.identity.FirstIdentity.{FirstIdentity}
use Rattle.auc_peer.specs.declared.peer.Challenge.{Challenge}
use Rattle.auc_peer.specs.declared.peer.Peer.{Peer}
use Rattle.auc_peer.specs.declared.peer.PeerState.{PeerState}
use Rattle.auc_peer.specs.declared.peer.PeerState.TheVariants as state
use Rattle.auc_peer.specs.declared.rows.Row.{Row}
use Rattle.auc_peer.specs.declared.rows.Row.TheVariants as row
use Rattle.auc_vector.specs.declared.why.PeerWhy.{PeerWhy}
use Rattle.auc_vector.specs.declared.why.PeerWhy.TheVariants as why
use Rattle.auc_reauth.specs.Device.{Keeps}
use Rattle.auc_request.specs.Request.{is_right_name, is_separated}
use Rattle.auc_request.specs.declared.identities.IdentityRequest.{IdentityRequest}
use Rattle.auc_request.specs.declared.identities.IdentityRequest.TheVariants as request
use Rattle.auc_seal.specs.Checkcode.{counted}
use Rattle.auc_server.specs.Messages.{aka_identity, attrs_given, challenge_draft, identity_request}
use Rattle.auc_server.specs.declared.naming.GivenNames.{GivenNames}
use Rattle.auc_vector.specs.declared.notes.UsimNote.{UsimNote}
use Rattle.auc_vector.specs.declared.turn.Reason.TheVariants as reason
use Rattle.auc_vector.specs.declared.turn.Step.TheVariants as step
use Rattle.auc_vector.specs.declared.turn.Turn.{Turn}
use Rattle.auc_world.proofs.PlainHiddenLemmas.{list_with}
use Rattle.auc_world.proofs.PlainPacketLemmas.{Is, packet_there, unlike}
use Rattle.auc_world.specs.Happened.{peer_options, server_options}
use Rattle.auc_world.specs.Plain.{IsNamed}

-- ---- the Identity request

-- a peer of a session waits for a request of this Identifier, after it sent an identity and these AKA-Identity packets; it has
-- answered none of that Identifier last
pub record Waits (opening : SessionLine) (p : Peer) (text : List ℕ) (packets : List (List ℕ)) (id : ℕ) : Type 0 where
  pub options_are : p.options ≡ peer_options opening
  pub waiting_is : p.state ≡ state.Waiting
  pub identity_is : p.identity ≡ Some text
  pub packets_are : p.packets ≡ packets
  pub new : (bytes : List ℕ) → slice_index bytes 1 ≡ id → repeats p.last bytes ≡ false

-- for each later request
abbrev pub WaitsOn : SessionLine → Peer → List ℕ → List (List ℕ) → ℕ → Type 0
WaitsOn opening p text packets id = (later : ℕ) → (id ≡ later → ⊥) → Waits opening p text packets later

-- the last request had another Identifier
pub other_id : (bytes request : List ℕ) (id before : ℕ) → slice_index bytes 1 ≡ id → slice_index request 1 ≡ before → (before ≡ id → ⊥) → bytes_eq bytes request ≡ false
other_id bytes request id before new old differ = unlike bytes request 1 (λ same. differ (sym old ∙ sym same ∙ new))

-- a turn that sends an identity
pub record SendsIdentity (opening : SessionLine) (text : List ℕ) (packets : List (List ℕ)) (id : ℕ) (bytes : List ℕ) (turn : Peer × Turn PeerWhy) : Type 0 where
  pub z : Peer
  pub turn_is : turn ≡ (z, record { notes = noted None; step = step.Sent bytes; checked = false })
  pub waits : WaitsOn opening z text packets id

pub first_row : (o : ToldSession) (seen : Seen) (id : ℕ) → Is seen (identity_request id) → peer_row (new_peer o) seen ≡ row.First
first_row o seen id is = ap (row_headed o state.Waiting None seen) is.head ∙ ap (waiting o) is.packet_is

pub identifies : (key : List ℕ) (opening : SessionLine) (device : Subscription) (keeps : Keeps) (seen : Seen) (n : Option UsimNote) (inner : Decrypted) (id : ℕ) → Is seen (identity_request id)
    → seen.bytes ≡ packet_text (identity_request id)
    → SendsIdentity opening (first_text opening.method device keeps (peer_options opening).first) [] id (packet_text (identity_response id (first_text opening.method device keeps (peer_options opening).first)))
    (peer_step key device keeps (new_peer (peer_options opening)) seen n inner)
identifies key opening device keeps seen n inner id is e =
    let o = peer_options opening in
    let text = first_text opening.method device keeps o.first in
    let sends : ℕ → Peer × Turn PeerWhy = λ i. (
      record (new_peer o) {
        state = state.Waiting;
        last = Some (record { id = i; request = seen.bytes; answer = packet_text (identity_response i text) });
        identity = Some text;
      },
      record { notes = noted None; step = step.Sent (packet_text (identity_response i text)); checked = false },
    ) in
    record {
      z = (sends id).0;
      turn_is = ap (λ (r : Row). peer_does key device keeps (new_peer o) seen r n inner) (first_row o seen id is) ∙ ap sends (ap id_in is.head);
      waits = λ later differ. record {
        options_are = refl;
        waiting_is = refl;
        identity_is = refl;
        packets_are = refl;
        new = λ bytes second. other_id bytes seen.bytes later id second (ap (λ (l : List ℕ). slice_index l 1) e) differ;
      };
    }

-- ---- a request of the method

-- a message has the type of its method
own_kind : (m : Method) → (method_type m == 1 || method_type m == method_type m) ≡ true
own_kind method.Aka = refl
own_kind method.Prime = refl

-- it is looked at, if the peer waits for its Identifier
pub awaited : (opening : SessionLine) (p : Peer) (seen : Seen) (text : List ℕ) (packets : List (List ℕ)) (id : ℕ) → Waits opening p text packets id
    → head_at seen.bytes ≡ Some (head_as 1 id (Some (method_type opening.method))) → slice_index seen.bytes 1 ≡ id → peer_row p seen ≡ waiting (peer_options opening) seen.reading
awaited opening p seen text packets id w head second =
    let m = opening.method in
    let o = peer_options opening in
    ap (λ (x : ToldSession). row_in x p.state p.last seen) w.options_are ∙ ap (λ (s : PeerState). row_in o s p.last seen) w.waiting_is ∙ ap (row_headed o state.Waiting p.last seen) head
    ∙ ap (λ (b : Bool). if b then row.Again else of_kind o state.Waiting p.last seen (head_as 1 id (Some (method_type m))) (Some (method_type m))) (w.new seen.bytes second)
    ∙ ap (λ (b : Bool). if not b then row.Ignore reason.OtherType else waiting o seen.reading) (own_kind m)

-- ---- an AKA-Identity request

asks_for : (o : ToldSession) (m : Method) (id : ℕ) (kind : IdentityRequest) → waiting o (reading.Read (aka_identity m id kind)) ≡ row.Identity kind
asks_for o m id request.Any = refl
asks_for o m id request.Fullauth = refl
asks_for o m id request.Permanent = refl

pub identity_row : (opening : SessionLine) (p : Peer) (seen : Seen) (text : List ℕ) (packets : List (List ℕ)) (id : ℕ) (kind : IdentityRequest) → Waits opening p text packets id
    → Is seen (aka_identity opening.method id kind) → seen.bytes ≡ packet_text (aka_identity opening.method id kind) → peer_row p seen ≡ row.Identity kind
identity_row opening p seen text packets id kind w is e =
    awaited opening p seen text packets id w is.head (ap (λ (l : List ℕ). slice_index l 1) e) ∙ ap (waiting (peer_options opening)) is.packet_is
    ∙ asks_for (peer_options opening) opening.method id kind

-- the AKA-Identity packets after a request and its answer
abbrev pub packets_with : SessionLine → ℕ → IdentityRequest → List ℕ → List (List ℕ) → List (List ℕ)
packets_with opening id kind text packets =
    counted (packet_text (identity_answer opening.method id text)) (counted (packet_text (aka_identity opening.method id kind)) packets)

pub identifies_again : (key : List ℕ) (opening : SessionLine) (device : Subscription) (keeps : Keeps) (p : Peer) (seen : Seen) (n : Option UsimNote) (inner : Decrypted) (text : List ℕ) (packets : List (List ℕ)) (id : ℕ) (kind : IdentityRequest)
    → MayBeWritten (aka_identity opening.method id kind) → Waits opening p text packets id → Is seen (aka_identity opening.method id kind) → seen.bytes ≡ packet_text (aka_identity opening.method id kind)
    → SendsIdentity opening (asked_text opening.method device keeps kind) (packets_with opening id kind (asked_text opening.method device keeps kind) packets) id
    (packet_text (identity_answer opening.method id (asked_text opening.method device keeps kind))) (peer_step key device keeps p seen n inner)
identifies_again key opening device keeps p seen n inner text packets id kind may w is e =
    let m = opening.method in
    let request = packet_text (aka_identity m id kind) in
    let own = asked_text m device keeps kind in
    let after : Method → List ℕ → ℕ → Peer = λ x t i. record p {
      state = state.Waiting;
      last = Some (record { id = i; request = seen.bytes; answer = packet_text (identity_answer x i t) });
      identity = Some t;
      packets = counted (packet_text (identity_answer x i t)) (counted (packet_in seen.bytes) p.packets);
    } in
    let sends : Method → ℕ → Peer × Turn PeerWhy = λ x i. (
      after x (asked_text x device keeps kind) i,
      record { notes = noted None; step = step.Sent (packet_text (identity_answer x i (asked_text x device keeps kind))); checked = false },
    ) in
    let heard : counted (packet_in seen.bytes) p.packets ≡ counted request packets =
    ap (λ (b : List ℕ). counted (packet_in b) p.packets) e ∙ ap (λ (b : List ℕ). counted b p.packets) (packet_there (aka_identity m id kind) may) ∙ ap (counted request) w.packets_are in
    record {
      z = (sends m id).0;
      turn_is = ap (λ (r : Row). peer_does key device keeps p seen r n inner) (identity_row opening p seen text packets id kind w is e)
          ∙ ap (λ (i : ℕ). sends p.options.method i) (ap id_in is.head) ∙ ap (λ (x : ToldSession). sends x.method id) w.options_are;
      waits = λ later differ. record {
        options_are = w.options_are;
        waiting_is = refl;
        identity_is = refl;
        packets_are = ap (counted (packet_text (identity_answer m id own))) heard;
        new = λ bytes second. other_id bytes seen.bytes later id second (ap (λ (l : List ℕ). slice_index l 1) e) differ;
      };
    }

-- ---- a Challenge

abbrev pub of_vector : List ℕ → List ℕ → Challenge
of_vector rand autn = record { rand = rand; autn = autn }

-- what the tests of a Challenge need beside its attributes
abbrev pub PassesBy : Method → List ℕ → SessionLine → Type 0
PassesBy method.Aka autn opening = (opening.has_prime && opening.bidding) ≡ false
PassesBy method.Prime autn opening = (is_separated autn ≡ true) × (is_right_name opening.peer_name opening.name ≡ true)

abbrev pub Passes : List ℕ → SessionLine → Type 0
Passes autn opening = PassesBy opening.method autn opening

-- a name that the peer takes
pub right_name : (own : Option (List ℕ)) (name : List ℕ) → 1 ≤ length name → IsNamed own name → is_right_name own name ≡ true
right_name own [] some is = absurd (omega (arith, some))
right_name None (byte ∷ bytes) some is = refl
right_name (Some w) (byte ∷ bytes) some is = (bytes_eq-Decides (byte ∷ bytes) w).1 (sym is)

-- an EAP-AKA' server and a peer that has the name, or none
abbrev after_name : List ℕ → List ℕ → Bool → Row
after_name rand autn named =
    if not named then row.Reject why.BadName else if not (is_separated autn) then row.Reject why.NoSeparation else row.Challenged (of_vector rand autn)

abbrev after_separation : List ℕ → List ℕ → Bool → Row
after_separation rand autn separated = if not separated then row.Reject why.NoSeparation else row.Challenged (of_vector rand autn)

-- an EAP-AKA server, and a peer that it doesn't bid down
abbrev after_bid : List ℕ → List ℕ → Bool → Row
after_bid rand autn down = if down then row.Reject why.Downgrade else row.Challenged (of_vector rand autn)

-- with nothing encrypted in it, or a pseudonym
taken : (session : ℕ) (m : Method) (own : Option (List ℕ)) (has : Bool) (first : FirstIdentity) (opening : SessionLine) (id : ℕ) (realm rand autn k_encr : List ℕ) (given : Option GivenNames) (check mac : List ℕ)
    → own ≡ opening.peer_name → has ≡ opening.has_prime → PassesBy m autn opening
    → waiting (record { session = session; method = m; name = own; has_prime = has; first = first })
    (reading.Read (packet.Aka true id m subtype.Challenge (list_with m opening.name opening.bidding rand autn (attrs_given realm k_encr given) check mac))) ≡ row.Challenged (of_vector rand autn)
taken session method.Prime own has first opening id realm rand autn k_encr None check mac named is passes =
    ap (λ (o : Option (List ℕ)). after_name rand autn (is_right_name o opening.name)) named ∙ ap (after_name rand autn) passes.1 ∙ ap (after_separation rand autn) passes.0
taken session method.Prime own has first opening id realm rand autn k_encr (Some g) check mac named is passes =
    ap (λ (o : Option (List ℕ)). after_name rand autn (is_right_name o opening.name)) named ∙ ap (after_name rand autn) passes.1 ∙ ap (after_separation rand autn) passes.0
taken session method.Aka own has first opening id realm rand autn k_encr given check mac named is passes = by opening.bidding given (ap (λ (b : Bool). b && opening.bidding) is ∙ passes)
  where
    by : (bid : Bool) (given : Option GivenNames) → (has && bid) ≡ false
        → waiting (record { session = session; method = method.Aka; name = own; has_prime = has; first = first })
        (reading.Read (packet.Aka true id method.Aka subtype.Challenge (list_with method.Aka opening.name bid rand autn (attrs_given realm k_encr given) check mac))) ≡ row.Challenged (of_vector rand autn)
    by true None down = ap (after_bid rand autn) down
    by false None down = ap (after_bid rand autn) down
    by true (Some g) down = ap (after_bid rand autn) down
    by false (Some g) down = ap (after_bid rand autn) down

-- a Challenge is handed to the USIM
pub challenge_row : (opening : SessionLine) (p : Peer) (seen : Seen) (text : List ℕ) (packets : List (List ℕ)) (id : ℕ) (realm rand autn k_encr : List ℕ) (given : Option GivenNames) (check mac : List ℕ)
    → Waits opening p text packets id → Passes autn opening → Is seen (with_mac (challenge_draft (server_options opening) realm id rand autn k_encr given check) mac) → slice_index seen.bytes 1 ≡ id
    → peer_row p seen ≡ row.Challenged (of_vector rand autn)
challenge_row opening p seen text packets id realm rand autn k_encr given check mac w passes is second =
    awaited opening p seen text packets id w is.head second ∙ ap (waiting (peer_options opening)) is.packet_is
    ∙ taken opening.session opening.method opening.peer_name opening.has_prime (peer_options opening).first opening id realm rand autn k_encr given check mac refl refl passes
