-- For plain sessions: the attributes of a Challenge, and what is encrypted among them.
use Rattle.std.proofs.Common.{◌≡◌, ℕ, ◌≤◌, Bool, true, false, List, [], ◌∷◌, ◌++◌, length, Option, Some, None, Result, Ok, Err, refl, ◌∙◌}
use Rattle.std.specs.List.{list_all}
use Rattle.auc_aes.specs.Bytes.{IsBlock, IsBytes}
use Rattle.auc_aes.specs.Cbc.{cbc_encrypted}
use Rattle.auc_attr.proofs.Facts.{written_attributes_are_read}
use Rattle.auc_attr.specs.Laws.{is_value}
use Rattle.auc_attr.specs.Spelling.{spelling}
use Rattle.auc_attr.specs.declared.attr.Attr.{Attr}
use Rattle.auc_attr.specs.declared.attr.Attr.TheVariants as attr
use Rattle.auc_hmac.specs.declared.method.Method.{Method}
use Rattle.auc_hmac.specs.declared.method.Method.TheVariants as method
use Rattle.auc_peer.specs.Table.{keys_for, network_of}
use Rattle.auc_peer.specs.Turn.{IsInner}
use Rattle.auc_peer.specs.declared.decrypted.Decrypted.{Decrypted}
use Rattle.auc_peer.specs.declared.decrypted.Decrypted.TheVariants as decrypted
use Rattle.auc_peer.specs.declared.peer.Challenge.{Challenge}
use Rattle.auc_request.specs.Request.{checkcode_of, first_value}
use Rattle.auc_seal.specs.Encrypted.{Decrypts, IsDecrypted, decrypted_bytes, padded}
use Rattle.auc_seal.specs.declared.refusal.SealRefusal.{SealRefusal}
use Rattle.auc_seal.specs.declared.refusal.SealRefusal.TheVariants as refusal
use Rattle.auc_request.specs.declared.enclosed.Enclosed.{Enclosed}
use Rattle.auc_server.proofs.Facts.{names_encryptable}
use Rattle.auc_server.specs.Messages.{attrs_by, attrs_given, names_in}
use Rattle.auc_server.specs.declared.naming.GivenNames.{GivenNames}
use Rattle.auc_vector.specs.Keys.{ck_by, ik_by, keys_of}
use Rattle.auc_world.proofs.PlainKeyLemmas.{AreNewNames}
use Rattle.auc_world.proofs.PlainPacketLemmas.{Laws}

-- ---- the attributes

-- those before AT_MAC, with some that are hidden
abbrev pub attrs_with : Method → List ℕ → Bool → List ℕ → List ℕ → List Attr → List ℕ → List Attr
attrs_with m name bid rand autn hidden check = (attr.Rand rand ∷ attr.Autn autn ∷ (attrs_by m name bid ++ hidden)) ++ attr.Checkcode check ∷ []

abbrev pub list_with : Method → List ℕ → Bool → List ℕ → List ℕ → List Attr → List ℕ → List ℕ → List Attr
list_with m name bid rand autn hidden check mac = attrs_with m name bid rand autn hidden check ++ attr.Mac mac ∷ []

-- their numbers have 16 bits
pub challenge_values : (m : Method) (name : List ℕ) (bid : Bool) (realm rand autn k_encr : List ℕ) (given : Option GivenNames) (check : List ℕ)
    → list_all is_value (attrs_with m name bid rand autn (attrs_given realm k_encr given) check) ≡ true
challenge_values method.Aka name true realm rand autn k_encr None check = refl
challenge_values method.Aka name false realm rand autn k_encr None check = refl
challenge_values method.Prime name bid realm rand autn k_encr None check = refl
challenge_values method.Aka name true realm rand autn k_encr (Some g) check = refl
challenge_values method.Aka name false realm rand autn k_encr (Some g) check = refl
challenge_values method.Prime name bid realm rand autn k_encr (Some g) check = refl

-- AT_CHECKCODE is among them
pub has_checkcode : (m : Method) (name : List ℕ) (bid : Bool) (realm rand autn k_encr : List ℕ) (given : Option GivenNames) (check mac : List ℕ)
    → first_value checkcode_of (list_with m name bid rand autn (attrs_given realm k_encr given) check mac) ≡ Some check
has_checkcode method.Aka name true realm rand autn k_encr None check mac = refl
has_checkcode method.Aka name false realm rand autn k_encr None check mac = refl
has_checkcode method.Prime name bid realm rand autn k_encr None check mac = refl
has_checkcode method.Aka name true realm rand autn k_encr (Some g) check mac = refl
has_checkcode method.Aka name false realm rand autn k_encr (Some g) check mac = refl
has_checkcode method.Prime name bid realm rand autn k_encr (Some g) check mac = refl

-- the keys are of the server's name
pub keys_taken : (m : Method) (name : List ℕ) (bid : Bool) (hidden : List Attr) (check mac : List ℕ) (c : Challenge) (text ik ck : List ℕ)
    → keys_for m (network_of m (list_with m name bid c.rand c.autn hidden check mac)) c text ik ck ≡ keys_of m text (ik_by m name c.autn ck ik) (ck_by m name c.autn ck ik)
keys_taken method.Aka name bid hidden check mac c text ik ck = refl
keys_taken method.Prime name bid hidden check mac c text ik ck = refl

-- ---- what is encrypted

no_error : {A : Type 0} (inner : A) (refused : SealRefusal) → ◌≡◌ {A = Result A SealRefusal} (Ok inner) (Err refused) → ⊥
no_error inner refused e = cc

-- nothing is, or the pseudonym
none_hidden : (m : Method) (name : List ℕ) (bid : Bool) (k_encr rand autn check mac : List ℕ) → decrypted_bytes k_encr (list_with m name bid rand autn [] check mac) ≡ Ok []
none_hidden method.Aka name true k_encr rand autn check mac = refl
none_hidden method.Aka name false k_encr rand autn check mac = refl
none_hidden method.Prime name bid k_encr rand autn check mac = refl

same_hidden : (m : Method) (name : List ℕ) (bid : Bool) (k_encr rand autn iv ciphertext check mac : List ℕ)
    → decrypted_bytes k_encr (list_with m name bid rand autn (attr.Iv iv ∷ attr.EncrData ciphertext ∷ []) check mac) ≡ decrypted_bytes k_encr (attr.Iv iv ∷ attr.EncrData ciphertext ∷ [])
same_hidden method.Aka name true k_encr rand autn iv ciphertext check mac = refl
same_hidden method.Aka name false k_encr rand autn iv ciphertext check mac = refl
same_hidden method.Prime name bid k_encr rand autn iv ciphertext check mac = refl

-- the attributes that a Challenge decrypts to
abbrev inner_of : List ℕ → Option GivenNames → List Attr
inner_of realm None = []
inner_of realm (Some g) = names_in realm g.names

decrypts_to : Laws → (m : Method) (name : List ℕ) (bid : Bool) (realm k_encr rand autn : List ℕ) (given : Option GivenNames) (check mac : List ℕ) → length realm ≤ 255 → IsBytes realm → IsBlock k_encr
    → AreNewNames given → Decrypts k_encr (list_with m name bid rand autn (attrs_given realm k_encr given) check mac) (Ok (inner_of realm given))
decrypts_to laws m name bid realm k_encr rand autn None check mac short also block are =
    record { bytes = []; plain = none_hidden m name bid k_encr rand autn check mac; whole = []; reads = written_attributes_are_read [] refl; rest = refl }
decrypts_to laws m name bid realm k_encr rand autn (Some g) check mac short also block are =
    let inner = names_in realm g.names in
    let can = names_encryptable realm g.names short also are.names in
    let alone : IsDecrypted k_encr (attr.Iv g.iv ∷ attr.EncrData (cbc_encrypted k_encr g.iv (spelling (padded inner))) ∷ []) inner =
    laws.decrypted k_encr g.iv inner [] block are.iv can.may can.bytes (record { iv = refl; ciphertext = refl }) in
    record {
      bytes = alone.bytes;
      plain = same_hidden m name bid k_encr rand autn g.iv (cbc_encrypted k_encr g.iv (spelling (padded inner))) check mac ∙ alone.plain;
      whole = alone.whole;
      reads = alone.reads;
      rest = alone.rest;
    }

-- a peer can read it
pub reads_inner : Laws → (m : Method) (name : List ℕ) (bid : Bool) (realm k_encr rand autn : List ℕ) (given : Option GivenNames) (check mac : List ℕ) (inner : Decrypted) → length realm ≤ 255 → IsBytes realm
    → IsBlock k_encr → AreNewNames given → IsInner k_encr (list_with m name bid rand autn (attrs_given realm k_encr given) check mac) inner → (e : Enclosed) × (inner ≡ decrypted.Attributes e)
reads_inner laws m name bid realm k_encr rand autn given check mac (decrypted.Attributes e) short also block are is = (e, refl)
reads_inner laws m name bid realm k_encr rand autn given check mac decrypted.Unreadable short also block are (refused, opens) =
    absurd (laws.opened k_encr (list_with m name bid rand autn (attrs_given realm k_encr given) check mac) (Err refused) (Ok (inner_of realm given)) (no_error (inner_of realm given) refusal.NoMemory) opens
    (decrypts_to laws m name bid realm k_encr rand autn given check mac short also block are))
