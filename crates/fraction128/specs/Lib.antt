pub mod Divisors
pub mod Reduced
pub mod Lowest
pub mod Printed
pub mod Product
pub mod Arithmetic
pub mod Split
pub mod Bounds
