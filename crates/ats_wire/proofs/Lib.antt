pub mod Public
mod Framing
mod Moved
mod Numbers
mod OneReply
mod OneWay
mod Replying
mod Spelled
mod Turns
mod PiecesRead
