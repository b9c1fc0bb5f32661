mod Here
mod Served
