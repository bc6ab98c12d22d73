-- Words of a line of a listing.
pub mod Plain
