pub mod Words
pub mod Input
pub mod Summary
pub mod Pieces
