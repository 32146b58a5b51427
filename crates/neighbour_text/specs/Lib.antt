pub mod NeighbourText
