mod Factors
mod Fractions
mod Pieces
mod Rounding
