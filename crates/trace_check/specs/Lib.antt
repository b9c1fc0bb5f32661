pub mod Cursors
pub mod FirstFault
pub mod Judging
pub mod Refusal
pub mod Standings
pub mod Told
pub mod ToldExamples
