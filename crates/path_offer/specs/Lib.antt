pub mod Choices
pub mod Inside
pub mod Offers
pub mod Repairs
