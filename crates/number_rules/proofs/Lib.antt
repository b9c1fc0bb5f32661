mod Children
mod InRow
mod Listed
