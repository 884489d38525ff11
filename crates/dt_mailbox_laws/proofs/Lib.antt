mod Kept
mod Pieces
mod Finding
mod Handing
mod Gaps
