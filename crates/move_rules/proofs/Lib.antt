mod Packed
mod Spelt
mod Alone
