pub mod Cells
pub mod ChainLinks
pub mod Holds
pub mod Index
pub mod RootedLink
pub mod Standing
pub mod Steps
