mod ServerLemmas
mod IdentityLemmas
mod DeviceLemmas
mod PlaceLemmas
mod MachineLemmas
mod NameLemmas
