pub mod Causes
pub mod Numbers
pub mod Refusals
pub mod Rules
