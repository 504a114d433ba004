-- What holds of all packets and all lists of attributes.
use Rattle.std.specs.Prelude.{◌≡◌, ◌≢◌, ℕ, ◌+◌, Bool, true, List, ◌++◌, length, Option, Result, Ok, Err}
use Rattle.std.specs.List.{list_all}
use Rattle.auc_aes.specs.Bytes.{IsBlock}
use Rattle.auc_attr.specs.declared.attr.Attr.{Attr}
use Rattle.auc_attr.specs.Grammar.{ReadsAttrs}
use Rattle.auc_attr.specs.Laws.{AreBytes, is_value}
use Rattle.auc_attr.specs.Mac.{IsMacPlace}
use Rattle.auc_attr.specs.Spelling.{writable, spelling}
use Rattle.auc_seal.specs.declared.refusal.SealRefusal.{SealRefusal}
use Rattle.auc_seal.specs.declared.refusal.SealRefusal.TheVariants as refusal
use Rattle.auc_seal.specs.Encrypted.{padded, encrypted, without_padding, MayBeEncrypted, HasNoneEncrypted, Decrypts, Opens}

-- the value of AT_MAC has one place in a packet, or none
abbrev pub OnePlace : Type 0
OnePlace =
    (packet : List ℕ) (place other : Option ℕ) → IsMacPlace packet place → IsMacPlace packet other → place ≡ other

-- each number in what was decrypted has 16 bits
abbrev pub has_values : Result (List Attr) SealRefusal → Bool
has_values (Ok list) = list_all is_value list
has_values (Err refused) = true

-- the decryption of a list has one answer, unless memory runs out
abbrev pub OneDecryption : Type 0
OneDecryption =
    (k_encr : List ℕ) (list : List Attr) (a b : Result (List Attr) SealRefusal) → a ≢ Err refusal.NoMemory → b ≢ Err refusal.NoMemory
    → has_values a ≡ true → has_values b ≡ true → Decrypts k_encr list a → Decrypts k_encr list b → a ≡ b

-- a list that is followed by the encryption of another decrypts to the other
abbrev pub EncryptedIsDecrypted : Type 0
EncryptedIsDecrypted =
    (k_encr iv : List ℕ) (inner out : List Attr) → IsBlock k_encr → IsBlock iv → MayBeEncrypted inner → AreBytes (spelling inner)
    → HasNoneEncrypted out → Decrypts k_encr (out ++ encrypted k_encr iv inner) (Ok inner)

-- if the list could be written before, it can be written with the encryption, in 24 bytes more than the
-- padded list takes
abbrev pub EncryptedIsWritable : Type 0
EncryptedIsWritable =
    (k_encr iv : List ℕ) (inner out : List Attr) → IsBlock k_encr → IsBlock iv → MayBeEncrypted inner → AreBytes (spelling inner)
    → HasNoneEncrypted out → writable out ≡ true
    → (writable (out ++ encrypted k_encr iv inner) ≡ true)
    × (length (spelling (out ++ encrypted k_encr iv inner)) ≡ length (spelling out) + 24 + length (spelling (padded inner)))

-- opening a list has one answer
abbrev pub OneOpening : Type 0
OneOpening =
    (k_encr : List ℕ) (list : List Attr) (a b : Result (List ℕ) SealRefusal) → Opens k_encr list a → Opens k_encr list b → a ≡ b

-- the opened bytes are the decrypted attributes and their padding, or both refuse for one reason
abbrev pub AreAlike : Result (List ℕ) SealRefusal → Result (List Attr) SealRefusal → Type 0
AreAlike (Ok bytes) (Ok inner) = (whole : List Attr) × ReadsAttrs bytes whole × (inner ≡ without_padding whole)
AreAlike (Err refused) (Err other) = refused ≡ other
AreAlike _ _ = ⊥

-- a list is opened exactly if it decrypts, unless memory runs out
abbrev pub OpensAsDecrypts : Type 0
OpensAsDecrypts =
    (k_encr : List ℕ) (list : List Attr) (opened : Result (List ℕ) SealRefusal) (decrypted : Result (List Attr) SealRefusal)
    → decrypted ≢ Err refusal.NoMemory → Opens k_encr list opened → Decrypts k_encr list decrypted → AreAlike opened decrypted
