-- Which attributes each message of EAP-AKA (RFC 4187 §9 and §10.1) and EAP-AKA' (RFC 9048 §3 and §4) has: by Subtype,
-- whether it is a Request, and method. An attribute is named by its type.
use Rattle.std.specs.Prelude.{ℕ, Bool, true, false, not, ◌&&◌, ◌||◌, nat_lt, List, [], ◌∷◌}
use Rattle.std.specs.List.{list_any}
use Rattle.auc_attr.specs.declared.attr.Attr.{Attr}
use Rattle.auc_attr.specs.Item.{item_of, has}
use Rattle.auc_attr.specs.Spelling.{stands_in}
use Rattle.auc_hmac.specs.declared.method.Method.{Method}
use Rattle.auc_hmac.specs.declared.method.Method.TheVariants as method
use Rattle.auc_packet.specs.declared.subtype.Subtype.{Subtype}
use Rattle.auc_packet.specs.declared.subtype.Subtype.TheVariants as subtype

-- the attributes that a message may have beside AT_ENCR_DATA's contents; a message that isn't named has none
abbrev pub allowed : Subtype → Bool → Method → List ℕ
allowed subtype.Challenge true method.Aka = 1 ∷ 2 ∷ 11 ∷ 129 ∷ 130 ∷ 134 ∷ 136 ∷ []
allowed subtype.Challenge true method.Prime = 1 ∷ 2 ∷ 11 ∷ 23 ∷ 24 ∷ 129 ∷ 130 ∷ 134 ∷ []
allowed subtype.Challenge false m = 3 ∷ 11 ∷ 134 ∷ []
allowed subtype.SynchronizationFailure false method.Aka = 4 ∷ []
allowed subtype.SynchronizationFailure false method.Prime = 4 ∷ 24 ∷ []
allowed subtype.Identity true m = 10 ∷ 13 ∷ 17 ∷ []
allowed subtype.Identity false m = 14 ∷ []
allowed subtype.Notification true m = 11 ∷ 12 ∷ []
allowed subtype.Reauthentication request m = 11 ∷ 129 ∷ 130 ∷ 134 ∷ []
allowed subtype.ClientError false m = 22 ∷ []
allowed _ _ _ = []

-- the attributes that a message must have. An Identity Request must have one of its three; AT_KDF_INPUT and AT_KDF
-- of a Challenge of EAP-AKA' are left to the peer's tests of their values
abbrev pub needed : Subtype → Bool → List ℕ
needed subtype.Challenge true = 1 ∷ 2 ∷ 11 ∷ []
needed subtype.Challenge false = 3 ∷ 11 ∷ []
needed subtype.SynchronizationFailure false = 4 ∷ []
needed subtype.Identity false = 14 ∷ []
needed subtype.Notification true = 12 ∷ []
needed subtype.Reauthentication request = 11 ∷ 129 ∷ 130 ∷ []
needed subtype.ClientError false = 22 ∷ []
needed _ _ = []

-- an attribute that its reader may not skip, and that isn't among the allowed ones (RFC 4187 §8.2)
abbrev pub is_foreign : List ℕ → Attr → Bool
is_foreign kinds a = nat_lt (item_of a).kind 128 && not (stands_in kinds (item_of a).kind)

abbrev pub is_malformed : Subtype → Bool → Method → List Attr → Bool
is_malformed s request m list = list_any (λ a. is_foreign (allowed s request m) a) list

-- exactly one of three holds
abbrev pub is_one : Bool → Bool → Bool → Bool
is_one true b c = not b && not c
is_one false true c = not c
is_one false false c = c

abbrev pub is_missing : Subtype → Bool → List Attr → Bool
is_missing subtype.Identity true list = not (is_one (has list 10) (has list 13) (has list 17))
is_missing s request list = list_any (λ kind. not (has list kind)) (needed s request)
