pub mod InnerKeeper
pub mod Keeper
