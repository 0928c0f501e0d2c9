pub mod Keys
pub mod Audit
pub mod Fitting
pub mod Clauses
