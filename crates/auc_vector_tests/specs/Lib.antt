pub mod InnerGains
pub mod InnerRound
