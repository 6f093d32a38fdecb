-- Laws about records.
pub mod ResultLaws
pub mod BlankLaws
pub mod EntryLaws
pub mod GatherLaws
pub mod ListLaws
pub mod LayLaws
pub mod WriteLaws
pub mod ReadWrite
pub mod WriteRead
