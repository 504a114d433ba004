pub mod Prime
pub mod Inner
