mod DueLemmas
mod FirstWord
