pub mod TreeNames
