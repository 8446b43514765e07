-- Good: the lag is good for every length, and no first frame is refused for it. Gains: from a fresh state the harmonic gains count. Lagged: what of a
-- frame goes by the lag of the state. Unheard: a subframe that isn't voiced does the same with two lags as long as the harmonic term is 0 under both.
-- NoTerm: where it is 0. UnheardFrame: the whole frame, with harmonic gains of 0 and after silence. VoicedFrame: a voiced frame. Theorems: which first
-- frames are what they were. Computed: three first frames, whole, from both states. Sheets: what `sheet` prints.
pub mod Good
pub mod Gains
pub mod Lagged
pub mod Unheard
pub mod NoTerm
pub mod UnheardFrame
pub mod VoicedFrame
pub mod Theorems
pub mod Computed
pub mod Sheets
