mod FewRows
mod Chunks
