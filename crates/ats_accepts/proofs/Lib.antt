pub mod Public
mod Asking
mod ShownPlaces
mod PartialTrees
mod AcceptedSlots
mod AcceptedTerms
mod AcceptedLists
mod AcceptedSections
mod AcceptedDocuments
mod AcceptedImpacts
mod AcceptedCut
mod AcceptedWhole
mod AcceptedRows
mod Accepted
mod HonestStrings
