mod Growing
mod Keying
mod Making
mod Writing
