pub mod Public
mod JsonLemmas
mod OneFault
mod Fronts
mod Archives
mod RootWords
mod OneFile
mod ListLines
mod ListReading
mod OneList
mod OneProof
mod Sound
mod OneKind
mod KindEnds
