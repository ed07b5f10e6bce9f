-- The archive journal: a whole journal's answer.
pub mod Replay
pub mod Laid
pub mod Steps
