mod AutsLemmas
mod EventLemmas
pub mod Facts
mod FurtherLemmas
mod HexLemmas
mod ImsiLemmas
mod LineLemmas
mod NumberLemmas
mod NumeralLemmas
mod OneTextLemmas
mod PieceLemmas
mod RoundLemmas
mod SimLemmas
mod SitesLemmas
mod SpacedLemmas
mod TextLemmas
mod WordLemmas
