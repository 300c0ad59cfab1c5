mod Pieces
mod Dropping
