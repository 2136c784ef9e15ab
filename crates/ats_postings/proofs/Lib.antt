pub mod Public
mod Rising
mod Sorting
mod PostingLemmas
mod VocabularyLemmas
mod WholeLemmas
mod ListedLemmas
