pub mod JoinedParts
