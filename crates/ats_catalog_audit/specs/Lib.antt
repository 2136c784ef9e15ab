pub mod Verdicts
pub mod AuditState
pub mod UnderWay
pub mod Inner
