pub mod Audit
pub mod Making
pub mod TrailText
