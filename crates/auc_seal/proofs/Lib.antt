mod PlaceLemmas
mod CheckcodeLemmas
mod SealLemmas
mod PaddingLemmas
mod EncryptionLemmas
mod OpeningLemmas
