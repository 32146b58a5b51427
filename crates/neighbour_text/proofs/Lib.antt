mod Lines
mod Vectors
