-- "Waiting answers": one turn, a run of turns, a dropped wait.
pub mod Answers
pub mod Turns
pub mod Manner
pub mod Run
pub mod Budget
