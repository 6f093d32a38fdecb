-- Laws about texts.
pub mod TextLaws
pub mod PutLaws
pub mod LengthLaws
pub mod DigitLaws
