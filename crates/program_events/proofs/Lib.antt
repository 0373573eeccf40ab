mod Steps
mod Keeping
mod Saying
mod Apart
