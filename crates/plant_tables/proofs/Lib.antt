pub mod Common
pub mod KeyLemmas
pub mod NumeralLemmas
pub mod TestLemmas
pub mod NetLemmas
pub mod RouteLemmas
pub mod KnownKeys
