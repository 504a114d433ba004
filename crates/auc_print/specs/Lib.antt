pub mod AutsText
pub mod EventText
pub mod Inner
pub mod Numeral
pub mod OneText
pub mod SimText
pub mod SitesText
pub mod Text
