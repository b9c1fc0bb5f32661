mod Asked
mod Burying
mod Numbers
mod Routes
