-- Laws about hours lists and joining.
pub mod EntryLaws
pub mod JoinLaws
pub mod ReadLaws
