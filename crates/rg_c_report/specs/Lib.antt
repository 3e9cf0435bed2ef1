pub mod Words
pub mod Lines
pub mod Counts
pub mod Parties
pub mod Orders
pub mod Reports
pub mod Inner
