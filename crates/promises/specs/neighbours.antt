pub mod ByNeighbours
