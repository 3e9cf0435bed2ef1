pub mod Answering
mod Apart
mod Lost
pub mod Outlining
mod Places
pub mod Printing
pub mod Proving
pub mod Stopping
pub mod Reporting
pub mod Meant
