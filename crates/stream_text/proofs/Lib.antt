pub mod Apart
pub mod Lines
pub mod Names
pub mod OneWay
pub mod Parts
pub mod Tables
