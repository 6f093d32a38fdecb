-- Laws about rounds in a row.
pub mod RoundLaws
pub mod BeforeRound
