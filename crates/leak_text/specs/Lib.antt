pub mod LeakText
