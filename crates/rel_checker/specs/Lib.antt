pub mod ComingBack
pub mod Steps
