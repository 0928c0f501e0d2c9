-- What the contracts cite.
pub mod Answer
pub mod Clauses
