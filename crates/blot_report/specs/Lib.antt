pub mod Day
pub mod Laws
pub mod Lines
pub mod Orders
pub mod Pieces
pub mod Standings
pub mod Sums
pub mod Text
