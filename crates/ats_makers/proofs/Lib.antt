pub mod Public
mod Stored
mod OneBoth
mod OneGrowth
mod Ranked
mod ShardSteps
mod OneCatalog
mod Proved
mod CatalogSteps
mod CatalogFile
mod Sound
