-- What a decimal text means, and what is printed.
pub mod FaultText
pub mod Halves
pub mod Text
pub mod Meaning
pub mod Printed
pub mod Sums
