pub mod Faults
pub mod Walking
pub mod Parties
pub mod Taking
pub mod Refusals
pub mod Received
pub mod Opening
pub mod Moments
