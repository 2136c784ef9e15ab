mod Exact
mod Turns
