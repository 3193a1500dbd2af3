pub mod Commits
pub mod Telling
pub mod Going
pub mod Worked
pub mod OneText
