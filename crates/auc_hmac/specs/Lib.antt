pub mod Hmac
pub mod States
pub mod Piece
pub mod Mac
pub mod Method
