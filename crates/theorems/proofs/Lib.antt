-- P1 to P8, demand 3 and the laws behind it, and last all theorems.
pub mod AllEdges
pub mod Boxes
pub mod Invariant
pub mod Walks
pub mod Pigeonhole
pub mod Moves
pub mod Frames
pub mod Calls
pub mod LoopFree
pub mod NeverTooLong
pub mod Computed
pub mod Printed
pub mod Theorems
