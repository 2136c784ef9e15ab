pub mod Public
mod Collected
mod Entries
mod Whole
mod Writing
mod Reading
mod Loading
mod OneArchive
mod CommonPrefix
mod ComparingLemmas
mod OnePlace
mod ReadingTexts
mod SomePlace
mod TermBytes
mod Vocabulary
mod Size
mod StringLemmas
mod FrontLemmas
