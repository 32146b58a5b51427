mod Items
mod Vectors
