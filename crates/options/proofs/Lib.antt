mod Givens
mod Pieces
