pub mod Best
pub mod Handed
pub mod Outcomes
pub mod Rules
pub mod Sound
pub mod Told
