pub mod Helped
pub mod Headline
pub mod Drilled
pub mod Playable
pub mod Audited
pub mod Expects
pub mod Network
pub mod Deeds
