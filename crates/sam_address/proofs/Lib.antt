mod Sides
mod Starts
mod LawLemmas
