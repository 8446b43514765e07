pub mod NoiseTerms
pub mod Output
pub mod Residual
