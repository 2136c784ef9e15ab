pub mod Public
mod Leads
mod Trees
mod Fits
mod Sides
mod SharedParts
mod Digests
mod Soundness
mod Exactness
mod PairLemmas
mod OneGrowth
mod CheckLemmas
mod Spelled
mod Results
mod LawLemmas
mod RangeLaws
mod InRange
