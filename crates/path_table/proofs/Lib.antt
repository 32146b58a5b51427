pub mod TableLemmas
pub mod CountingLemmas
pub mod RepeatLemmas
pub mod KeyLemmas
pub mod AddLemmas
pub mod LookupLemmas
