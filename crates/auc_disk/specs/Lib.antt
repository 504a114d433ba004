pub mod Disk
pub mod Failing
pub mod FileDisk
pub mod InnerReplay
pub mod InnerTorn
pub mod MemDisk
pub mod Replay
