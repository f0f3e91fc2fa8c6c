pub mod AlikeIn
