mod NameTests
mod Owners
