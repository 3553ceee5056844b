pub mod Book
pub mod Faults
pub mod Laws
pub mod Stacks
