-- Inside: what the quantiser has at each sample. Heard: what the far end makes of what is handed out.
pub mod Inside
pub mod Heard
