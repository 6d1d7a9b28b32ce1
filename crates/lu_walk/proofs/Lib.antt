mod RowLemmas
mod Reading
mod StoreRows
mod StoreWords
mod OverStore
