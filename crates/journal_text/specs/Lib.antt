pub mod Journal
pub mod Laws
pub mod Sizes
pub mod Fronts
pub mod Drafts
