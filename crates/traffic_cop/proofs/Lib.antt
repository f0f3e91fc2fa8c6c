pub mod ModuleLemmas
pub mod DropLemmas
pub mod TestLemmas
pub mod CheckLemmas
pub mod FeedingLemmas
