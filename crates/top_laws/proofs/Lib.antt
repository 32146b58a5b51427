pub mod BoundLists
pub mod Fewness
mod Nobody
pub mod StillMet
mod Tops
