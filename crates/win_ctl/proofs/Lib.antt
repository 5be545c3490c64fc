pub mod CtlLemmas
