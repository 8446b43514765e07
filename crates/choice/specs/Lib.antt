pub mod RustChoice
pub mod RuleChoice
pub mod Ranges
