pub mod Dids
pub mod Joined
pub mod Possible
pub mod Settled
pub mod ItemJoined
pub mod Sized
pub mod Watched
