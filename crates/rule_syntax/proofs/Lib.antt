pub mod ArgumentLemmas
pub mod ExpressionLemmas
pub mod ParsingLemmas
pub mod PartLemmas
pub mod Further
pub mod Lines
pub mod PortNames
pub mod Scans
