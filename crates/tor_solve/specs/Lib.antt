pub mod Classes
pub mod Laws
pub mod Solving
pub mod Solutions
