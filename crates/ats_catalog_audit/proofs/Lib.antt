pub mod Public
mod Clashing
mod Firsts
mod AuditState
mod Told
mod UnderWay
