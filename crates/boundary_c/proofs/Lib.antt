-- What is promised of the exports, and its proof.
pub mod Exports
pub mod Exported
