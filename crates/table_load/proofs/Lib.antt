mod Filling
mod Numbers
mod Rows
mod Spelling
mod TableReads
mod Whole
