mod Runs
mod Pushed
mod Going
mod Filling
mod Pulling
mod Parts
mod Judged
pub mod Lookups
mod Fronts
mod Grouped
pub mod Leading
