pub mod Sites
pub mod Frames
pub mod Messages
pub mod Replays
