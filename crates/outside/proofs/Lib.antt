mod Found
mod Pieces
mod Written
