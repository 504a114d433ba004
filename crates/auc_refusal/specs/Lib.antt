pub mod Refusal
pub mod Causes
pub mod Replies
pub mod Told
pub mod Faults
