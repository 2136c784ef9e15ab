pub mod Public
mod DictionaryLemmas
mod HeaderLemmas
mod TermLemmas
mod PrefixLemmas
mod OwnHeader
mod OwnLeaves
mod OwnPlaces
mod Enclosed
mod OwnDocuments
