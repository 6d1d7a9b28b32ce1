mod AcceptedLemmas
mod GlobalLemmas
mod Rows
mod Spaces
