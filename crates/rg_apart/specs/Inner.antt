-- What only contracts of private functions speak of: no public contract reaches it.
pub mod View
