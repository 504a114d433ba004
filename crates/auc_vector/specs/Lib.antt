pub mod Auts
pub mod Centre
pub mod InnerStretch
pub mod Keys
pub mod Stretch
pub mod Vector
pub mod Notes
pub mod Many
