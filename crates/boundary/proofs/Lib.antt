-- Laws about the calls for other languages.
pub mod SmallLaws
pub mod IntoLaws
pub mod CallLaws
