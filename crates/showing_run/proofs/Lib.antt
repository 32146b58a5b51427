mod Comings
mod OnPaths
mod Showings
mod Tellings
mod Vectors
mod Viewings
