mod NameBytes
mod SymbolLemmas
mod TableLemmas
mod WorkedSessions
mod WorkedBooks
