pub mod Covering
pub mod EndsForm
pub mod Estimating
pub mod Layering
pub mod CentreForm
