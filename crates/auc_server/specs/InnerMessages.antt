-- Values of a server's messages.
use Rattle.std.specs.Prelude.{◌≡◌, ℕ, ◌%◌, ◌≤◌, List, length, Option, Some, None}
use Rattle.auc_aes.specs.Cbc.{cbc_encrypted}
use Rattle.auc_attr.specs.declared.attr.Attr.{Attr}
use Rattle.auc_attr.specs.Spelling.{spelling}
use Rattle.auc_attr.specs.Laws.{AreBytes}
use Rattle.auc_seal.specs.Encrypted.{MayBeEncrypted, padded}
use Rattle.auc_server.specs.Messages.{names_in}
use Rattle.auc_server.specs.declared.naming.GivenNames.{GivenNames}
use Rattle.auc_server.specs.declared.naming.NewNames.{NewNames}
use Rattle.auc_server.specs.declared.naming.NewNames.TheVariants as names

-- the ciphertext of attributes has whole units of 4 bytes, and at most 336 bytes
pub record IsSmall (k_encr iv : List ℕ) (inner : List Attr) : Type 0 where
  pub block : length iv ≡ 16
  pub units : length (cbc_encrypted k_encr iv (spelling (padded inner))) % 4 ≡ 0
  pub ciphertext : length (cbc_encrypted k_encr iv (spelling (padded inner))) ≤ 336

abbrev pub IsGiven : List ℕ → List ℕ → Option GivenNames → Type 0
IsGiven realm k_encr None = Unit {0}
IsGiven realm k_encr (Some given) = IsSmall k_encr given.iv (names_in realm given.names)

-- attributes that may be encrypted are spelled by bytes, of which there are at most 336
pub record AreEncryptable (inner : List Attr) : Type 0 where
  pub may : MayBeEncrypted inner
  pub bytes : AreBytes (spelling inner)
  pub units : length (spelling inner) % 4 ≡ 0
  pub size : length (spelling inner) ≤ 336

-- a name is 33 bytes
pub record IsNamed (text : List ℕ) : Type 0 where
  pub size : length text ≡ 33
  pub bytes : AreBytes text

abbrev pub IsName : Option (List ℕ) → Type 0
IsName None = Unit {0}
IsName (Some text) = IsNamed text

abbrev pub AreNames : NewNames → Type 0
AreNames (names.Pseudonym text) = IsNamed text
AreNames (names.Identity text) = IsNamed text
AreNames (names.Both text other) = IsNamed text × IsNamed other
