pub mod Lanes
pub mod Listing
pub mod Seating
pub mod Seats
pub mod Storing
