pub mod Facts
mod GroupLemmas
mod KeeperLemmas
mod MomentLemmas
