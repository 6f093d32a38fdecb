-- Laws about sizes and about the answer, for the proofs here.
pub mod ArrayLaws
pub mod BinLaws
pub mod SizeLaws
pub mod ThresholdLaws
pub mod RisingLaws
pub mod StateLaws
