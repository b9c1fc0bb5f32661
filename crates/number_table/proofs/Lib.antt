mod Entries
mod Guesses
mod Places
