pub mod Public
mod Avoids
mod Calls
mod Causes
mod Counts
mod Ends
mod Files
mod Leads
mod Left
mod Refusals
mod Steps
mod Stopping
