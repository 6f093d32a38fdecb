-- Laws about the lightest of a set, for the proofs here.
pub mod FiresLaws
pub mod SetLaws
pub mod GatheringLaws
pub mod ColumnLaws
pub mod TermLaws
pub mod YearLaws
pub mod CourseLaws
pub mod RuleLaws
pub mod ScreenLaws
