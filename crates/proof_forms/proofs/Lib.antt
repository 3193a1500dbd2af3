mod Adding
mod Counts
mod Greatest
mod Stopping
