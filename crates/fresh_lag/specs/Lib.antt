-- Lags: a call with another lagPrev, first frames. Frames: first frames that are computed.
pub mod Lags
pub mod Frames
