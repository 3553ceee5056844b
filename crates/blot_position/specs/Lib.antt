pub mod Carried
pub mod Cells
pub mod Positions
pub mod Sums
