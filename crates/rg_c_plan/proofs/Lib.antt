mod Places
mod Lists
mod Indices
mod Singles
mod Checked
mod Written
mod Orders
mod Meeting
pub mod Where
mod LastChanges
