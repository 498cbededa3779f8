-- Laws of the refusals.
pub mod Laws
