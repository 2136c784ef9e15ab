pub mod Collided
pub mod Audited
pub mod Listed
pub mod Gathered
pub mod Findings
pub mod Trial
pub mod Commands
pub mod Inner
