pub mod Shared
pub mod rename
pub mod row_hash
