mod FontIs
mod FontList
mod Padding
mod Replaced
mod SymbolList
mod TableList
mod Within
