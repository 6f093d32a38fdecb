-- Laws about a year's definitions, for the proofs here and above.
pub mod SoundLaws
pub mod SoundYearLaws
pub mod BoundLaws
pub mod CheckLaws
pub mod DoorLaws
pub mod EntryLaws
pub mod SumLaws
pub mod ListedLaws
pub mod ChangeLaws
pub mod PlanCount
pub mod OnePlacing
pub mod ImbalanceLaws
