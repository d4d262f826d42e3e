mod Runs
mod Numbered
mod Truths
mod Ending
