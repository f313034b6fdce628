pub mod PutLaws
pub mod EntryLaws
pub mod LineLaws
pub mod LineImage
