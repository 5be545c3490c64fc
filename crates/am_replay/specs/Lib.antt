pub mod Scripts
pub mod Written
pub mod Playing
pub mod Ends
pub mod Own
pub mod Traces
pub mod Packing
pub mod PackEnds
