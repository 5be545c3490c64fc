pub mod FidLemmas
pub mod PlaceLemmas
pub mod UndoLemmas
pub mod LawLemmas
pub mod HeldLemmas
