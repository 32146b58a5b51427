pub mod TableDumpEncodings
pub mod PeerEncodings
pub mod RibEncodings
pub mod Loops
pub mod Skips
mod TableDumpVectors
mod Vectors
pub mod FaultLemmas
pub mod FaultLaws
pub mod PeerLoops
pub mod MaskLemmas
pub mod ValueEncodings
mod ValueVectors
