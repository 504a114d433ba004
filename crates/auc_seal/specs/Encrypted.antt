-- Encrypted attributes (RFC 4187 §10.12): the spelling of a list of attributes, padded to whole blocks and
-- encrypted by AES-128 in CBC mode under K_encr. AT_IV carries the initialisation vector, AT_ENCR_DATA the
-- ciphertext.
use Rattle.std.specs.Prelude.{◌≡◌, ◌≢◌, ℕ, ◌-◌, ◌%◌, ◌≤◌, ◌==◌, nat_lt, Bool, true, false, not, ◌&&◌, if◌then◌else◌, List, [], ◌∷◌, ◌++◌, length, replicate, Option, Some, None, Result, Ok, Err}
use Rattle.std.specs.List.{filter, list_any}
use Rattle.auc_aes.specs.Cbc.{cbc_encrypted, cbc_decrypted}
pub use Rattle.auc_attr.specs.First.{first_value}
use Rattle.auc_attr.specs.declared.attr.Attr.{Attr}
use Rattle.auc_attr.specs.declared.attr.Attr.TheVariants as attr
use Rattle.auc_attr.specs.declared.refusal.AttrRefusal.{AttrRefusal}
use Rattle.auc_attr.specs.declared.refusal.AttrRefusal.TheVariants as attr_refusal
use Rattle.auc_attr.specs.Grammar.{Reads, ReadsAttrs, FirstFault}
use Rattle.auc_attr.specs.Item.{Item}
use Rattle.auc_attr.specs.Spelling.{writable, spelling}
use Rattle.auc_seal.specs.declared.refusal.SealRefusal.{SealRefusal}
use Rattle.auc_seal.specs.declared.refusal.SealRefusal.TheVariants as refusal

-- whether an attribute is AT_PADDING
abbrev pub is_padding : Attr → Bool
is_padding (attr.Padding v) = true
is_padding _ = false

-- the value of an AT_IV
abbrev pub iv_of : Attr → Option (List ℕ)
iv_of (attr.Iv v) = Some v
iv_of _ = None

-- the value of an AT_ENCR_DATA
abbrev pub data_of : Attr → Option (List ℕ)
data_of (attr.EncrData v) = Some v
data_of _ = None

-- ---- encryption

-- how many bytes are missing to a multiple of 16
abbrev pub missing : ℕ → ℕ
missing n = (16 - n % 16) % 16

-- AT_PADDING that fills n bytes up to a multiple of 16 with its type, length and zeros, or nothing if n is one
abbrev pub padding_for : ℕ → List Attr
padding_for n = if missing n == 0 then [] else attr.Padding (replicate (missing n - 2) 0) ∷ []

-- a list, followed by its padding
abbrev pub padded : List Attr → List Attr
padded inner = inner ++ padding_for (length (spelling inner))

-- AT_IV and AT_ENCR_DATA of a list
abbrev pub encrypted : List ℕ → List ℕ → List Attr → List Attr
encrypted k_encr iv inner = attr.Iv iv ∷ attr.EncrData (cbc_encrypted k_encr iv (spelling (padded inner))) ∷ []

-- the lists that may be encrypted: they have a spelling of at most 992 bytes, at least one attribute and no
-- padding
pub record MayBeEncrypted (inner : List Attr) : Type 0 where
  pub some : inner ≢ []
  pub writable : writable inner ≡ true
  pub unpadded : list_any is_padding inner ≡ false
  pub size : length (spelling inner) ≤ 992

-- a list without AT_IV and AT_ENCR_DATA
pub record HasNoneEncrypted (list : List Attr) : Type 0 where
  pub iv : first_value iv_of list ≡ None
  pub ciphertext : first_value data_of list ≡ None

-- ---- decryption

-- a ciphertext is one or more whole blocks
abbrev pub is_ciphertext : List ℕ → Bool
is_ciphertext bytes = nat_lt 0 (length bytes) && (length bytes % 16 == 0)

-- the bytes that a ciphertext and an initialisation vector give, if the list has them
abbrev pub bytes_under : List ℕ → Option (List ℕ) → Option (List ℕ) → Result (List ℕ) SealRefusal
bytes_under k_encr None iv = Ok []
bytes_under k_encr (Some ciphertext) None = Err refusal.NoIv
bytes_under k_encr (Some ciphertext) (Some iv) = if is_ciphertext ciphertext then Ok (cbc_decrypted k_encr iv ciphertext) else Err refusal.BadSize

-- the decrypted bytes of a list; there are none if it has no AT_ENCR_DATA
abbrev pub decrypted_bytes : List ℕ → List Attr → Result (List ℕ) SealRefusal
decrypted_bytes k_encr list = bytes_under k_encr (first_value data_of list) (first_value iv_of list)

-- a list without its padding
abbrev pub without_padding : List Attr → List Attr
without_padding list = filter (λ a. not (is_padding a)) list

-- the decrypted bytes of a list are these attributes and padding
pub record IsDecrypted (k_encr : List ℕ) (list inner : List Attr) : Type 0 where
  pub bytes : List ℕ
  pub plain : decrypted_bytes k_encr list ≡ Ok bytes
  pub whole : List Attr
  pub reads : ReadsAttrs bytes whole
  pub rest : inner ≡ without_padding whole

-- the decrypted bytes of a list have this first fault
pub record IsFaulty (k_encr : List ℕ) (list : List Attr) (fault : AttrRefusal) : Type 0 where
  pub bytes : List ℕ
  pub plain : decrypted_bytes k_encr list ≡ Ok bytes
  pub a_fault : fault ≢ attr_refusal.NoMemory
  pub first : FirstFault bytes fault

-- what decryption answers; running out of memory is no fault of the list
abbrev pub Decrypts : List ℕ → List Attr → Result (List Attr) SealRefusal → Type 0
Decrypts k_encr list (Ok inner) = IsDecrypted k_encr list inner
Decrypts k_encr list (Err refusal.NoIv) = decrypted_bytes k_encr list ≡ Err refusal.NoIv
Decrypts k_encr list (Err refusal.BadSize) = decrypted_bytes k_encr list ≡ Err refusal.BadSize
Decrypts k_encr list (Err (refusal.Attr fault)) = IsFaulty k_encr list fault
Decrypts k_encr list (Err refusal.NoMemory) = Unit {0}

-- ---- opening: decryption that keeps the bytes

abbrev pub bytes_or_none : Option (List ℕ) → List ℕ
bytes_or_none None = []
bytes_or_none (Some bytes) = bytes

-- the ciphertext of a list, which is empty if there is none
abbrev pub ciphertext_of : List Attr → List ℕ
ciphertext_of list = bytes_or_none (first_value data_of list)

-- the decrypted bytes of a list, and that they are attributes
pub record IsOpened (k_encr : List ℕ) (list : List Attr) (bytes : List ℕ) : Type 0 where
  pub plain : decrypted_bytes k_encr list ≡ Ok bytes
  pub items : List Item
  pub reads : Reads bytes items

-- what opening answers; it takes no memory, so memory never runs out
abbrev pub Opens : List ℕ → List Attr → Result (List ℕ) SealRefusal → Type 0
Opens k_encr list (Ok bytes) = IsOpened k_encr list bytes
Opens k_encr list (Err refused) = (refused ≢ refusal.NoMemory) × Decrypts k_encr list (Err refused)
