pub mod Cuts
pub mod GrammarLemmas
pub mod MatchLemmas
pub mod Places
pub mod SetLaws
pub mod Equality
