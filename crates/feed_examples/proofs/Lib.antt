pub mod Shared
pub mod WakeUps
pub mod Feed
pub mod Print
pub mod Replay
pub mod Run
