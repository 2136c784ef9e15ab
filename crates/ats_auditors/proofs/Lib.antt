pub mod Public
mod OneListed
mod OneCollision
mod OneFinding
mod OneTrial
mod AuditEnds
mod FoundGrows
mod ListCuts
mod ListEntries
mod Archives
mod CatalogSteps
mod Gathers
mod GatherSteps
mod Reports
mod JobSteps
mod SweepSteps
mod Tried
mod Sound
